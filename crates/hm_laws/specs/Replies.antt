-- Which reply it is.
use Rattle.std.specs.Prelude.{Bool, true, false}
use Rattle.hm_model.specs.declared.entry.Reply.{Reply}
use Rattle.hm_model.specs.declared.entry.Reply.TheVariants.{Usable, Bytes, Filled}

abbrev pub is_usable : Reply → Bool
is_usable (Usable size) = true
is_usable reply = false

abbrev pub is_bytes : Reply → Bool
is_bytes (Bytes runs) = true
is_bytes reply = false

abbrev pub is_filled : Reply → Bool
is_filled Filled = true
is_filled reply = false
