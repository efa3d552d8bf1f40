-- What stops the bytes of a text: the source's end, or its failure.

pub data Stop : Type 0 where
  End : Stop
  Failed : Stop
