-- What the histories that a run hands out say.
use Rattle.std.specs.Prelude.{◌≡◌, ◌+◌, ◌<◌, ◌≤◌, ℕ, true, IsTrue, List, [], ◌∷◌, ◌++◌, length, slice_get, String, Some}
use Rattle.std.specs.declared.alloc.Global.{Global}
use Rattle.hm_outside.specs.declared.pages.Pages as pages
use Rattle.hm_model.specs.declared.entry.Entry.{Entry}
use Rattle.hm_model.specs.Calls.{IsFreedAt}
use Rattle.hm_model.specs.Maps.{at}
use Rattle.hm_sizes.specs.Origins.{Origin, large_region_number}
use Rattle.hm_sizes.specs.Shapes.{usable, delay}
use Rattle.hm_class_rules.specs.Bytes.{byte_at}
use Rattle.hm_class_rules.specs.Laws as class_laws
use Rattle.hm_heap.specs.ClassRules as class
use Rattle.hm_large_rules.specs.Bytes as large_bytes
use Rattle.hm_large_rules.specs.State as large_state
use Rattle.hm_large_rules.specs.Steps as large_steps
use Rattle.hm_large_rules.specs.Laws as large_laws
use Rattle.hm_heap.specs.LargeRules as large
use Rattle.hm_heap.specs.declared.close.Closed.{Closed}
use Rattle.hm_heap.specs.declared.close.History.{History}
use Rattle.hm_heap.specs.Lawful.{class_terms, large_terms}
use Rattle.hm_heap.specs.Laws.{IsOfBlock}
use Rattle.hm_run.specs.declared.run.Run.{Run}
use Rattle.hm_run.specs.declared.words.Options.{Options}
use Rattle.hm_run.specs.Endings.{Ends}
use Rattle.hm_run.specs.Refusals.{RefusesClass, RefusesLarge}
use Rattle.hm_run.specs.Replayed.{origin_at, AreEnds}
use Rattle.hm_run.specs.Streams.{Stream, MetFault}
use Rattle.hm_run.specs.Words.{AsksJournal, config_of}

-- of the history at a index of a closed heap, and the pages there
module _ {P : Type 0} (meaning : pages.Ghosts P) (o : Options) (closed : Closed P) (index : ℕ) (p : P) where
  -- which region it is
  abbrev pub origin : Origin
  origin = origin_at meaning o index p

  -- these are its pages, and its history begins with these entries
  pub record Begins (entries : List Entry) : Type 0 where
    pub ends : AreEnds meaning o closed
    pub pages_are : slice_get closed.pages index ≡ Some p
    pub history : History
    pub history_is : slice_get closed.histories index ≡ Some history
    pub later : List Entry
    pub is : history.entries ≡ entries ++ later

  -- it is a class region, or the large one
  pub record BeginsClass (entries : List Entry) : Type 0 where
    pub begins : Begins entries
    pub class : origin.region < large_region_number

  pub record BeginsLarge (entries : List Entry) : Type 0 where
    pub begins : Begins entries
    pub large : origin.region ≡ large_region_number

  -- the rules of that region
  abbrev pub class_rules : class.Terms
  class_rules = class_terms origin

  abbrev pub large_rules : large.Terms
  large_rules = large_terms origin

  -- ---- live blocks never overlap
  -- two live blocks of a region that share an address are one
  abbrev pub LiveBlocksApart : Type 0
  LiveBlocksApart = (entries : List Entry) → Begins entries
      → (a b q : ℕ) → IsOfBlock origin entries a q → IsOfBlock origin entries b q → a ≡ b

  -- ---- what was freed comes back late
  -- between a free of a slot and its next giving stand at least ring + min(array, 1) further frees of its region
  abbrev pub SlotsComeLate : Type 0
  SlotsComeLate = (before middle : List Entry) (freed given : Entry) (a : ℕ)
      → BeginsClass (before ++ freed ∷ (middle ++ given ∷ []))
      → IsFreedAt freed a → class_laws.IsGivenAt given a
      → delay class_rules.shape ≤ class_laws.frees_in middle

  -- between the free of a large block below 32 MiB and a given one that meets it, at least 1,025 further such frees
  abbrev pub BlocksComeLate : Type 0
  BlocksComeLate = (before middle : List Entry) (freed given : Entry) (a b asked guard : ℕ) (block : large_state.Block)
      → BeginsLarge (before ++ freed ∷ (middle ++ given ∷ []))
      → IsFreedAt freed a → at a (large.state large_rules before).live ≡ Some block
      → large_state.is_quarantined block ≡ true
      → large_laws.IsGivenAt given b asked guard → large_laws.Meets (a, block) (b, large_steps.new_block asked guard)
      → length (large.state large_rules (before ++ freed ∷ [])).frees + 1025
      ≤ length (large.state large_rules (before ++ freed ∷ middle)).frees

  -- ---- what is given is zero where reuse is checked, or its overwrite is told
  abbrev pub SlotsAreZero : Type 0
  SlotsAreZero = (before : List Entry) (given : Entry) (a k : ℕ)
      → BeginsClass (before ++ given ∷ []) → class_laws.IsGivenAt given a
      → IsTrue class_rules.told → IsTrue class_rules.config.check_reuse → k < usable class_rules.shape
      → byte_at class_rules.shape (class.state class_rules (before ++ given ∷ [])) (a + k) ≡ Some 0

  -- what is not zero in a given slot was written by a fill, after the slot's latest free, if there is one, and after its
  -- slab's latest opening
  abbrev pub SlotsAreWritten : Type 0
  SlotsAreWritten = (before : List Entry) (given : Entry) (a k byte : ℕ)
      → BeginsClass (before ++ given ∷ []) → class_laws.IsGivenAt given a → k < usable class_rules.shape
      → byte_at class_rules.shape (class.state class_rules (before ++ given ∷ [])) (a + k) ≡ Some byte → 0 < byte
      → class_laws.IsWrittenSince class_rules.shape (before ++ given ∷ []) a (a + k) byte

  abbrev pub BlocksAreZero : Type 0
  BlocksAreZero = (before : List Entry) (given : Entry) (a asked guard k : ℕ)
      → BeginsLarge (before ++ given ∷ []) → large_laws.IsGivenAt given a asked guard
      → k < large_state.size_for asked
      → large_bytes.byte_at (large.state large_rules (before ++ given ∷ [])).live (a + k) ≡ Some 0

  -- a slot that was found overwritten is never given afterwards
  abbrev pub OverwrittenStay : Type 0
  OverwrittenStay = (before middle : List Entry) (found given : Entry) (a : ℕ)
      → BeginsClass (before ++ found ∷ (middle ++ given ∷ []))
      → class_laws.IsOverwrittenAt found a → class_laws.IsGivenAt given a → ⊥

  -- ---- each refusal exactly where its cause holds
  abbrev pub ClassRefusals : Type 0
  ClassRefusals = (before : List Entry) (e : Entry) → BeginsClass (before ++ e ∷ [])
      → RefusesClass class_rules (class.state class_rules before) e e.call

  abbrev pub LargeRefusals : Type 0
  LargeRefusals = (before : List Entry) (e : Entry) → BeginsLarge (before ++ e ∷ [])
      → RefusesLarge large_rules (large.state large_rules before) e e.call

-- live blocks of two regions share no address, after any number of entries of each
abbrev pub RegionsApart : {P : Type 0} → pages.Ghosts P → Options → Closed P → Type 0
RegionsApart {P} meaning o closed = (index other : ℕ) (p their_p : P) (entries theirs : List Entry)
    → Begins meaning o closed index p entries → Begins meaning o closed other their_p theirs
    → (a b q : ℕ) → IsOfBlock (origin_at meaning o index p) entries a q
    → IsOfBlock (origin_at meaning o other their_p) theirs b q → index ≡ other

-- ---- what a journal tells
-- a run wrote the journal of this heap, with these options, to a sink that was empty, and now tells that it holds this text
pub record WritesJournal {P : Type 0} (meaning : pages.Ghosts P) (run : Run P) (o : Options) (left : Closed P)
    (text : List ℕ) : Type 0 where
  pub words : List (String Global)
  pub source : Stream
  pub sink : Stream
  pub ends : Ends meaning words run source sink
  pub asks : AsksJournal words o
  pub closed_is : run.closed ≡ Some left
  pub empty : sink.before ≡ Some []
  pub holds : sink.after ≡ Some text
  pub whole : MetFault sink → ⊥

-- journals of one text are of one configuration, one seed and one list of histories
abbrev pub JournalsTell : {P : Type 0} → pages.Ghosts P → Type 0
JournalsTell {P} meaning = (run other : Run P) (o theirs : Options) (left right : Closed P) (text : List ℕ)
    → WritesJournal meaning run o left text → WritesJournal meaning other theirs right text
    → (config_of o ≡ config_of theirs) × (o.seed ≡ theirs.seed) × (left.histories ≡ right.histories)
