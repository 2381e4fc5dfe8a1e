-- A class region by its origin.
use Rattle.std.proofs.Common.{◌≡◌, ℕ, ◌+◌, ◌*◌, ◌/◌, ◌%◌, ◌<◌, nat_lt, if◌then◌else◌, Bool, true, IsTrue, Result, Ok, Err, IfOk, Option, None, sym, ◌∙◌, ap, subst, arith}
use Rattle.std.proofs.lemmas.Bool.{lt-ltb}
use Rattle.std.proofs.lemmas.Nat.{div-mul-add, mod-mul-add}
use mathlib.Core.Logic.{inl}
use Rattle.std.specs.Box.{with_value}
use Rattle.std.specs.Global.{Box}
use Rattle.hm_base.specs.declared.memory.NoMemory.{NoMemory}
use Rattle.hm_outside.specs.declared.pages.Pages as pages
use Rattle.hm_model.specs.declared.entry.Call.{Call}
use Rattle.hm_model.specs.declared.entry.Call.TheVariants.{Allot, GiveBack, Measure, Fetch, Fill}
use Rattle.hm_model.specs.declared.entry.Reply.{Reply}
use Rattle.hm_model.specs.declared.entry.Who.{Who}
use Rattle.hm_model.specs.Served.{ServesCall}
use Rattle.hm_model.specs.Replies.{IsClassReply}
use Rattle.hm_sizes.specs.declared.class.ClassId.{ClassId}
use Rattle.hm_sizes.specs.declared.config.Config.{Config}
use Rattle.hm_sizes.specs.Classes.{class_count}
use Rattle.hm_sizes.specs.Origins.{class_region_number, large_region_number}
use Rattle.hm_sizes.specs.Shapes.{has_bytes, usable}
use Rattle.hm_class_rules.specs.Draws.{drawn_shape}
use Rattle.hm_class_rules.specs.Drawn.{IsDrawn}
use Rattle.hm_class_rules.specs.Rules.{Terms, IsLegal, IsLiveBlock, state, wrong_size, wrong_canary}
use Rattle.hm_class.specs.Calls.{class_regions, Accepts}
use Rattle.hm_class.specs.Region.{Region, IsRegion, IsTakenBack, HoldsSlabs, origin, terms, region_shape}
use Rattle.hm_large_rules.specs.Rules as large_state
use Rattle.hm_heap.specs.Accepted.{IsAcceptedFree, IsAccepted}
use Rattle.hm_heap.specs.Lawful.{arena_of, class_in, class_terms, large_terms, IsLawful, IsSound, Holds, fault_count}
use Rattle.hm_heap.specs.Origins.{numbers_of}
use Rattle.hm_heap.specs.Regions.{regions}
use Rattle.hm_heap.specs.Requests.{IsReply}
use Rattle.hm_heap.specs.declared.region.Region.{Region as Either}
use Rattle.hm_heap.specs.declared.region.Region.TheVariants.{Class}

-- ---- its arena and class are read from its number
abbrev terms_with : Config → ℕ → Bool → ℕ → ClassId → Terms
terms_with c seed told arena class = record { config = c; shape = drawn_shape seed c arena class; told = told }

class_back : (arena : ℕ) (class : ClassId) → class.0 < class_count → class_in (class_region_number arena class) ≡ class
class_back arena class below = λ i. record { 0 = mod-mul-add arena class_count class.0 below i }

arena_back : (arena : ℕ) (class : ClassId) → class.0 < class_count → arena_of (class_region_number arena class) ≡ arena
arena_back arena class below = div-mul-add arena class_count class.0 below

pub terms_back : {P : Type 0} (told : P → Bool) (r : Region P) → r.class.0 < class_count → class_terms (origin told r) ≡ terms told r
terms_back told r below =
    ap (λ (a : ℕ). terms_with r.config r.seed (told r.pages) a (class_in (class_region_number r.arena r.class))) (arena_back r.arena r.class below)
    ∙ ap (λ (k : ClassId). terms_with r.config r.seed (told r.pages) r.arena k) (class_back r.arena r.class below)

module _ {P : Type 0} (meaning : pages.Ghosts P) (r : Region P) (h : IsRegion meaning r) where
  pub class_below : (origin meaning.told r).region < large_region_number
  class_below = omega (arith, h.class_below, h.arena_below, h.valid.arenas_most)

  not_large : (origin meaning.told r).region ≡ large_region_number → ⊥
  not_large e = omega (arith, e, h.class_below, h.arena_below, h.valid.arenas_most)

  same : class_terms (origin meaning.told r) ≡ terms meaning.told r
  same = terms_back meaning.told r h.class_below

  class_lawful : IsLawful (origin meaning.told r) r.entries
  class_lawful = record {
    class = λ lt. record {
      legal = subst (λ (t : Terms). IsLegal t r.entries) (sym same) h.legal;
      drawn = subst (λ (t : Terms). IsDrawn r.seed (arena_of (class_region_number r.arena r.class)) t r.entries) (sym same)
          (subst (λ (a : ℕ). IsDrawn r.seed a (terms meaning.told r) r.entries) (sym (arena_back r.arena r.class h.class_below)) h.drawn);
    };
    large = λ e. absurd (not_large e);
  }

  class_holds : IsTrue (meaning.told r.pages) → Holds (origin meaning.told r) r.entries (meaning.runs r.pages)
  class_holds tells = record {
    class = λ lt. subst (λ (t : Terms). HoldsSlabs t.shape (state t r.entries).opens (meaning.runs r.pages)) (sym same) (h.slabs tells);
    large = λ e. absurd (not_large e);
  }

  is_below : nat_lt (origin meaning.told r).region large_region_number ≡ true
  is_below = lt-ltb (origin meaning.told r).region large_region_number class_below

  class_count_is : fault_count (origin meaning.told r) r.entries ≡ (state (terms meaning.told r) r.entries).faults
  class_count_is =
      ap (λ (b : Bool). if b then (state (class_terms (origin meaning.told r)) r.entries).faults else (large_state.state (large_terms (origin meaning.told r)) r.entries).faults) is_below
      ∙ ap (λ (t : Terms). (state t r.entries).faults) same

  pub class_sound : IsSound meaning (origin meaning.told r) r.entries r.pages
  class_sound = record {
    is_region = record { valid = h.valid; region = inl (omega (arith, h.class_below, h.arena_below)) };
    lawful = class_lawful;
    typed = h.typed;
    count = h.count ∙ sym class_count_is;
    holds = class_holds;
    owned = h.owned;
  }

  -- ---- what is replied
  pub class_replies : (call : Call) (result : Result Reply NoMemory) → IfOk result (IsClassReply (usable (region_shape r)) call) → IfOk result (IsReply (origin meaning.told r) call)
  class_replies call (Ok reply) fits = record {
    class = λ lt. subst (λ (t : Terms). IsClassReply (usable t.shape) call reply) (sym same) fits;
    large = λ e. absurd (not_large e);
  }
  class_replies call (Err none) fits = tt

  -- ---- a free that never lacks memory
  pub class_taken : (a : ℕ) (stated : Option ℕ) → IsAcceptedFree (origin meaning.told r) r.entries a stated → IsTakenBack meaning.told r a stated
  class_taken a stated x =
      let s = x.class class_below in
      record {
        tells = subst (λ (t : Terms). has_bytes t.shape ≡ true → IsTrue t.told) same s.tells;
        block = subst (λ (t : Terms). IsLiveBlock t.shape (state t r.entries) a) same s.block;
        size = subst (λ (t : Terms). wrong_size t.shape stated ≡ None) same s.size;
        canary = subst (λ (t : Terms). wrong_canary t.shape (state t r.entries) a ≡ None) same s.canary;
      }

  pub class_accepts : (call : Call) → IsAccepted (origin meaning.told r) r.entries call → Accepts meaning.told r call
  class_accepts (Allot asked align) x = absurd x
  class_accepts (Measure a) x = absurd x
  class_accepts (Fetch a len) x = absurd x
  class_accepts (Fill a runs) x = absurd x
  class_accepts (GiveBack a stated) x = class_taken a stated x

-- ---- a call that it serves is one that a region of either kind serves
pub class_serves : {P : Type 0} (meaning : pages.Ghosts P) (held : Box (Region P)) (new : Region P) {old : Either P} {who : Who} {call : Call} {r : Result Reply NoMemory}
    → Class held ≡ old → ServesCall (class_regions meaning) who call held.value new r → ServesCall (regions meaning) who call old (Class (with_value held new)) r
class_serves meaning held new {old} {who} {call} {r} is s = subst (λ (z : Either _). ServesCall (regions meaning) who call z (Class (with_value held new)) r) is (record {
  before = class_sound meaning held.value s.before;
  after = class_sound meaning new s.after;
  origin = s.origin;
  added = s.added;
  replies = class_replies meaning held.value s.before call r s.replies;
  memory = s.memory;
  accepted = λ x. s.accepted (class_accepts meaning held.value s.before call x);
})

-- ---- a new region
pub class_origin_at : {P : Type 0} (told : P → Bool) (r : Region P) (c : Config) (seed region : ℕ) → r.config ≡ c → r.seed ≡ seed
    → r.arena ≡ region / class_count → r.class ≡ record { 0 = region % class_count }
    → numbers_of (origin told r) ≡ numbers_of (record { config = c; seed = seed; region = region; told = told r.pages })
class_origin_at told r c seed region config_is seed_is arena_is class_is =
    let region_is : r.arena * class_count + r.class.0 ≡ region = omega (arith, arena_is, ap (λ (k : ClassId). k.0) class_is) in
    λ i. numbers_of (record { config = config_is i; seed = seed_is i; region = region_is i; told = told r.pages })
