-- What callers see of a decoder.
use Rattle.std.specs.Prelude.{Bool}
use Rattle.x86_decode.specs.declared.decoder.InstDecoder.{InstDecoder}

-- whether it refuses LFENCE, MFENCE and SFENCE with rm other than 0
abbrev pub is_strict : InstDecoder → Bool
is_strict d = d.strict
