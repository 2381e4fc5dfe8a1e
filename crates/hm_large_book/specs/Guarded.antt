-- What is said of an entry of an allotment that is allowed, by the word that comes next.
use Rattle.std.specs.Prelude.{◌≡◌, ℕ, Some}
use Rattle.hm_choice.specs.Stream.{Words, next_word}
use Rattle.hm_model.specs.declared.entry.Entry.{Entry}
use Rattle.hm_model.specs.Calls.{one_word}
use Rattle.hm_large_rules.specs.Draws.{guard_of}
use Rattle.hm_model.specs.declared.judgement.Judgement.{Judgement}
use Rattle.hm_model.specs.declared.judgement.Judgement.TheVariants.{Taken, NotLegal, NotDrawn}

-- the entry holds the word, and the guard that it draws
pub record DrawsGuard (words : Words) (e : Entry) (size : ℕ) : Type 0 where
  pub word : e.draws ≡ one_word (next_word words)
  pub guard : e.choices.guard ≡ Some (guard_of size (next_word words))

abbrev pub JudgesGuard : Words → Entry → ℕ → Judgement → Type 0
JudgesGuard words e size Taken = DrawsGuard words e size
JudgesGuard words e size NotLegal = ⊥
JudgesGuard words e size NotDrawn = DrawsGuard words e size → ⊥
