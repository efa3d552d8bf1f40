-- What a sweep has before it.
use Rattle.std.specs.Prelude.{List}
use Rattle.x86_decode.specs.Decoder.{is_strict}
use Rattle.x86_layout.specs.declared.sweeps.cuts.Cut.{Cut}
use Rattle.x86_layout.specs.declared.sweeps.sweep.Sweep.{Sweep}
use Rattle.x86_layout.specs.Sweeps.Cuts.{cuts_from}

-- the cuts that a sweep has before it
abbrev pub cuts_left : Sweep → List Cut
cuts_left s = cuts_from (is_strict s.decoder) s.place s.rest.now
