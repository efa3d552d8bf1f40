use Rattle.x86_cli.proofs.HeadlineLemmas.Sentences.{same_errors, same_sentences}
use Rattle.x86_cli.proofs.laws.sentences.Goals as goal

pub returns : goal.returns
returns c = record { sentences = same_sentences; errors = same_errors }
