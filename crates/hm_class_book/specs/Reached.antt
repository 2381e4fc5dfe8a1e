-- What a class book says, after which entries it says so, and what it makes of the next one.
use Rattle.std.specs.Prelude.{◌≡◌, ◌↔◌, ◌≤◌, ℕ, Bool, true, List, Option, IsTrue}
use Rattle.hm_model.specs.declared.entry.Entry.{Entry}
use Rattle.hm_sizes.specs.declared.class.ClassId.{ClassId}
use Rattle.hm_sizes.specs.declared.config.Config.{Config}
use Rattle.hm_sizes.specs.Shapes.{IsShape, slab_of}
use Rattle.hm_class_rules.specs.Draws.{drawn_shape, Picked, Returned, Undrawn, event, start_slot}
use Rattle.hm_class_rules.specs.Kinds.{Kind}
use Rattle.hm_class_rules.specs.Kinds as rules
use Rattle.hm_class_rules.specs.State.{State}
use Rattle.hm_class_rules.specs.Steps.{changed}
use Rattle.hm_class_rules.specs.Rules.{Terms, Allowed, IsLegal}
use Rattle.hm_class_rules.specs.Stepped.{Cells, first_cells, touched, next, cells, IsSteppedEntry, IsStepped}
use Rattle.hm_class_book.specs.Picks.{IsFirst, Judges}
use Rattle.hm_model.specs.declared.judgement.Judgement.{Judgement}
use Rattle.hm_model.specs.declared.judgement.Judgement.TheVariants.{Taken, NotLegal, NotDrawn}

-- a book: its region, and what that keeps after the entries so far
pub record Said : Type 0 where
  pub seed : ℕ
  pub arena : ℕ
  pub terms : Terms
  pub cells : Cells

-- the terms of a region, whose pages tell their bytes
abbrev pub told_terms : ℕ → Config → ℕ → ClassId → Terms
told_terms seed c arena class = record { config = c; shape = drawn_shape seed c arena class; told = true }

-- before any entry
abbrev pub first_said : ℕ → Config → ℕ → ClassId → Said
first_said seed c arena class = let t = told_terms seed c arena class in record {
  seed = seed;
  arena = arena;
  terms = t;
  cells = first_cells seed arena t;
}

-- what a region keeps after some history that is legal and drawn; its numbers fit together
pub record Reached (seed arena : ℕ) (t : Terms) (c : Cells) : Type 0 where
  pub parks : 1 ≤ t.config.park_length
  pub shape : IsShape t.shape
  pub past : List Entry
  pub legal : IsLegal t past
  pub stepped : IsStepped seed arena t past
  pub cells_are : c ≡ cells seed arena t past

abbrev pub IsReached : Said → Type 0
IsReached b = Reached b.seed b.arena b.terms b.cells

-- the entry is allowed and drawn, and the book says what the region keeps after it
pub record Takes (old new : Said) (e : Entry) : Type 0 where
  pub allowed : Allowed old.terms old.cells.state e
  pub drawn : IsSteppedEntry old.terms old.cells e
  pub said : new ≡ record old { cells = next old.terms old.cells e }
  pub reached : IsReached new

abbrev pub IsJudged : Said → Said → Entry → Judgement → Type 0
IsJudged old new e Taken = Takes old new e
IsJudged old new e NotLegal = Allowed old.terms old.cells.state e → ⊥
IsJudged old new e NotDrawn = Allowed old.terms old.cells.state e × (IsSteppedEntry old.terms old.cells e → ⊥)

-- with another state
abbrev pub at_state : Said → State → Said
at_state b s = record b { cells = record b.cells { state = s } }

-- the state is changed as the entry says, but for the count of page faults
abbrev pub IsChanged : Said → Entry → State → Type 0
IsChanged b e now = now ≡ changed b.terms.shape e.choices e.call e.reply b.cells.state

-- what was found of an entry at which nothing is drawn, before its words are looked at
pub record Found (b : Said) (e : Entry) (legal : Bool) (now : State) : Type 0 where
  pub reached : IsReached b
  pub undrawn : event e ≡ Undrawn
  pub allows : IsTrue legal ↔ Allowed b.terms b.cells.state e
  pub changed : IsTrue legal → IsChanged b e now

-- the same where a slot was picked: whether it is the first available one
pub record FoundPicked (b : Said) (e : Entry) (a : ℕ) (kind : Kind) (picked : Option Bool) (now : State) : Type 0 where
  pub reached : IsReached b
  pub event_is : event e ≡ Picked a
  pub kind_is : kind ≡ rules.kind b.terms.shape b.cells.state (slab_of b.terms.shape a)
  pub judged : Judges (Allowed b.terms b.cells.state e)
      (IsFirst b.terms.shape b.cells.state e.choices (start_slot b.terms e.choices e.draws) a) (IsChanged b e now) picked

-- the same where a block was taken back
pub record FoundFreed (b : Said) (e : Entry) (a : ℕ) (kind : Kind) (legal : Bool) (now : State) : Type 0 where
  pub reached : IsReached b
  pub event_is : event e ≡ Returned a
  pub kind_is : kind ≡ rules.kind b.terms.shape b.cells.state (touched b.terms.shape e.choices.released (Returned a))
  pub allows : IsTrue legal ↔ Allowed b.terms b.cells.state e
  pub changed : IsTrue legal → IsChanged b e now
