use Rattle.std.proofs.Common.{rules, sym, ap, ◌∙◌}
use Rattle.x86_forms.specs.Words.{unpack}
use Rattle.x86_forms.proofs.WordLemmas.{row_of_its_word, word_found}
use Rattle.x86_forms.proofs.words.unpack.Goals as goal

pub returns-in_err-word_row-clause-row : goal.returns-in_err-word_row-clause-row
returns-in_err-word_row-clause-row c = search rules

pub returns-in_err-word_row-clause-every : goal.returns-in_err-word_row-clause-every
returns-in_err-word_row-clause-every c r has e = returns-in_err-word_row-clause-row c ∙ (ap unpack e ∙ row_of_its_word r has)

pub returns-clause-row : goal.returns-clause-row
returns-clause-row c = search rules

pub returns-clause-found : goal.returns-clause-found
returns-clause-found c = word_found c.args.word _ (sym (returns-clause-row c))

pub returns-clause-every : goal.returns-clause-every
returns-clause-every c r has e = returns-clause-row c ∙ (ap unpack e ∙ row_of_its_word r has)
