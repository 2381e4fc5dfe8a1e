-- The entries of one caller are used up by plans, each part taking the next one of its region.
use Rattle.std.specs.Prelude.{◌≡◌, ◌≢◌, ◌⊎◌, ℕ, ◌+◌, List, [], ◌∷◌}
use Rattle.hm_model.specs.declared.answer.Answer.{Answer}
use Rattle.hm_model.specs.declared.entry.Entry.{Entry}
use Rattle.hm_model.specs.declared.entry.Call.{Call}
use Rattle.hm_model.specs.declared.entry.Reply.{Reply}
use Rattle.hm_model.specs.declared.entry.Who.{Who}
use Rattle.hm_heap.specs.Plans.{Plan, Done, Part}

-- the caller's entries that are not used up: those of the region at each index, in order
abbrev pub Own : Type 0
Own = ℕ → List Entry

abbrev pub used_up : Own
used_up index = []

-- nothing is taken
abbrev pub Stay : Own → Own → Type 0
Stay xs ys = (index : ℕ) → ys index ≡ xs index

-- the next entry at this index is taken
pub record Takes (index : ℕ) (e : Entry) (xs ys : Own) : Type 0 where
  pub here : xs index ≡ e ∷ ys index
  pub elsewhere : (other : ℕ) → other ≢ index → ys other ≡ xs other

-- one entry is taken, of this call; the rest goes on from its reply
pub record TakesPart (index : ℕ) (who : Who) (call : Call) (xs : Own) (Rest : Own → Reply → Type 0) : Type 0 where
  pub entry : Entry
  pub who_is : entry.who ≡ who
  pub call_is : entry.call ≡ call
  pub left : Own
  pub takes : Takes index entry xs left
  pub rest : Rest left entry.reply

-- the parts of the plan, numbered from n, are the next entries, and this is its answer
abbrev pub Uses : (ℕ → Who) → ℕ → Plan → Answer → Own → Own → Type 0
Uses who n (Done a) answer xs ys = (answer ≡ a) × Stay xs ys
Uses who n (Part index call next) answer xs ys =
    TakesPart index (who n) call xs (λ left reply. Uses who (n + 1) (next reply) answer left ys)

-- the first parts of the plan, however many, are the next entries, numbered from n
abbrev pub UsesFront : (ℕ → Who) → ℕ → Plan → Own → Own → Type 0
UsesFront who n (Done a) xs ys = Stay xs ys
UsesFront who n (Part index call next) xs ys =
    Stay xs ys ⊎ TakesPart index (who n) call xs (λ left reply. UsesFront who (n + 1) (next reply) left ys)
