-- What reading and writing a range comes to.
use Rattle.std.specs.Prelude.{◌≡◌, ℕ, nat_lt, Bool, IsTrue, not, ◌+◌, ◌<◌, ◌≤◌, true, ◌&&◌, List, length, Option, Some, None}
use Rattle.hm_model.specs.Ranges.{first_failing}
use Rattle.hm_model.specs.Runs.{expand}
use Rattle.hm_model.specs.declared.entry.Reply.{Reply}
use Rattle.hm_model.specs.declared.entry.Reply.TheVariants as reply
use Rattle.hm_outside.specs.declared.pages.Pages as pages
use Rattle.hm_outside.specs.PageRuns.{PageRuns}
use Rattle.hm_sizes.specs.declared.shape.Shape.{Shape}
use Rattle.hm_sizes.specs.Shapes.{has_bytes, slab_of}
use Rattle.hm_class_rules.specs.State.{State, is_open}
use Rattle.hm_class_rules.specs.Bytes.{first_trap, bytes_read, write}
use Rattle.hm_class.specs.declared.access.Fetched.{Fetched}
use Rattle.hm_class.specs.declared.access.Fetched.TheVariants.{Bytes, Trap}
use Rattle.hm_class.specs.Kept.{Shows}
use Rattle.hm_class.specs.Region.{HoldsSlabs}
use Rattle.hm_class.specs.SlotBytes.{KeepsPages}
use Rattle.hm_class.specs.Uses.{Uses, open_at}

-- the address lies in an open slab, and slabs have bytes
abbrev pub is_accessible : Shape → Uses → ℕ → Bool
is_accessible p uses q = has_bytes p && (not (nat_lt q p.first) && open_at uses (slab_of p q))

-- the first of len addresses from a on that is not accessible
abbrev pub trap_in : Shape → Uses → ℕ → ℕ → Option ℕ
trap_in p uses a len = first_failing (is_accessible p uses) a len

-- reading gives the bytes of the state, or the first address that is not accessible
abbrev pub Fetches : Bool → PageRuns → Shape → Uses → ℕ → ℕ → Fetched → Type 0
Fetches told runs p uses a len (Bytes read) =
    (length (expand read) ≡ len)
    × (IsTrue told → (s : State) → Shows p uses s → HoldsSlabs p s.opens runs → (first_trap p s a len ≡ None)
    × (expand read ≡ bytes_read p s a len))
Fetches told runs p uses a len (Trap q) = IsTrue told → (s : State) → Shows p uses s → HoldsSlabs p s.opens runs
    → first_trap p s a len ≡ Some q

-- its reply
abbrev pub fetch_reply : Fetched → Reply
fetch_reply (Bytes read) = reply.Bytes read
fetch_reply (Trap q) = reply.Trap q

-- an address lies in a slab that the state has open, and slabs have bytes
pub record HasByte (p : Shape) (s : State) (q : ℕ) : Type 0 where
  pub own : has_bytes p ≡ true
  pub from : p.first ≤ q
  pub open_slab : is_open s (slab_of p q) ≡ true

-- so does each of len addresses from a on
abbrev pub HaveBytes : Shape → State → ℕ → ℕ → Type 0
HaveBytes p s a len = (q : ℕ) → a ≤ q → q < a + len → HasByte p s q

-- what came of writing: the bytes of the state, or nothing and the first address that is not accessible
abbrev pub Filled : Bool → PageRuns → PageRuns → Shape → Uses → ℕ → List ℕ → Reply → Type 0
Filled told before now p uses a bytes reply.Filled =
    IsTrue told → (s : State) → Shows p uses s → HoldsSlabs p s.opens before
    → (first_trap p s a (length bytes) ≡ None) × HoldsSlabs p (write p a bytes s).opens now
Filled told before now p uses a bytes (reply.Trap q) =
    IsTrue told → (now ≡ before)
    × ((s : State) → Shows p uses s → HoldsSlabs p s.opens before → first_trap p s a (length bytes) ≡ Some q)
Filled told before now p uses a bytes other = ⊥

module _ {P : Type 0} (meaning : pages.Ghosts P) (p : Shape) (before now : P) where
  -- these len bytes were written from a on, where they lie in open slabs
  pub record Overwrites (a len : ℕ) (bytes : List ℕ) : Type 0 where
    pub pages : KeepsPages meaning before now
    pub written : IsTrue (meaning.told before) → (s : State) → HoldsSlabs p s.opens (meaning.runs before)
        → HaveBytes p s a len → HoldsSlabs p (write p a bytes s).opens (meaning.runs now)

  -- so were these where all of them are accessible, and else none
  pub record Fills (uses : Uses) (a : ℕ) (bytes : List ℕ) (reply : Reply) : Type 0 where
    pub pages : KeepsPages meaning before now
    pub filled : Filled (meaning.told before) (meaning.runs before) (meaning.runs now) p uses a bytes reply
