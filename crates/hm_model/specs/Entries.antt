-- Entries of a history.
use Rattle.std.specs.Prelude.{◌≡◌, ℕ, ◌<◌, ◌==◌, List}
use Rattle.std.specs.List.{filter}
use Rattle.hm_model.specs.declared.entry.Entry.{Entry}
use Rattle.hm_model.specs.declared.entry.Draws.{Draws}

-- a region's history, oldest entry first, with the room for entries to come
pub record Entries : Type 0 where
  pub entries : List Entry
  pub spare : ℕ

-- words past those that were drawn are 0
pub record AreDraws (d : Draws) : Type 0 where
  pub first : d.used < 1 → d.w0 ≡ 0
  pub second : d.used < 2 → d.w1 ≡ 0
  pub third : d.used < 3 → d.w2 ≡ 0

-- the entries of one caller, in order
abbrev pub calls_of : List Entry → ℕ → List Entry
calls_of entries caller = filter (λ (e : Entry). e.who.caller == caller) entries
