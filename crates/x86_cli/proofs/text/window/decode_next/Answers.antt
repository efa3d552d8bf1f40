use Rattle.x86_cli.proofs.TextLemmas.Decoded.{yields_whole, yields_refused, yields_ended, yields_rest, yields_shows}
use Rattle.x86_cli.proofs.text.window.decode_next.Goals as goal

pub returns-in-Ok-clause-rest : goal.returns-in-Ok-clause-rest
returns-in-Ok-clause-rest c =
    yields_rest _ (c.decoder_laws.ensures _) _ _ _
    (yields_whole _ (c.decoder_laws.ensures _) c.args.window.now.ended _ _ _ c.in-Ok.ensures.value c.as_slice.ensures) _ _

pub returns-in-Ok-clause-shows : goal.returns-in-Ok-clause-shows
returns-in-Ok-clause-shows c =
    yields_shows _ (c.decoder_laws.ensures _) _ _ _
    (yields_whole _ (c.decoder_laws.ensures _) c.args.window.now.ended _ _ _ c.in-Ok.ensures.value c.as_slice.ensures)

pub returns-in-Refused-clause-rest : goal.returns-in-Refused-clause-rest
returns-in-Refused-clause-rest c =
    yields_rest _ (c.decoder_laws.ensures _) _ _ _
    (yields_refused _ (c.decoder_laws.ensures _) _ _ _ _ c.in-Err.ensures.value c.as_slice.ensures c.in-Refused.ensures) _ _

pub returns-in-Refused-clause-shows : goal.returns-in-Refused-clause-shows
returns-in-Refused-clause-shows c =
    yields_shows _ (c.decoder_laws.ensures _) _ _ _
    (yields_refused _ (c.decoder_laws.ensures _) _ _ _ _ c.in-Err.ensures.value c.as_slice.ensures c.in-Refused.ensures)

pub returns-in-Some-clause-rest : goal.returns-in-Some-clause-rest
returns-in-Some-clause-rest c =
    yields_rest _ (c.decoder_laws.ensures _) _ _ _
    (yields_ended _ (c.decoder_laws.ensures _) _ _ _ _ _ c.in-Err.ensures.value c.as_slice.ensures c.in-Nothing.ensures c.in-Some.is) _ _
