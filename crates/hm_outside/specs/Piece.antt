-- The bytes of a piece.
use Rattle.std.specs.Prelude.{ℕ, List, replicate}
use Rattle.hm_outside.specs.declared.piece.Piece.{Piece}
use Rattle.hm_outside.specs.declared.piece.Piece.TheVariants.{Same, Bytes}

-- those that stand in memory, or one byte, so many times
abbrev pub bytes_in : Piece → List ℕ
bytes_in (Same byte len) = replicate len byte
bytes_in (Bytes slice) = slice.now
