-- What is read of a block since its giving was written since, or is zero.
use Rattle.std.proofs.Common.{◌≡◌, ℕ, zero, suc, ◌+◌, ◌-◌, ◌<◌, ◌≤◌, Bool, true, cond, List, [], ◌∷◌, ◌++◌, map, Option, Some, None, is_some, unwrap_or, sym, ◌∙◌, ap, subst, refl, arith, append_assoc}
use Rattle.std.specs.Prelude.{IsTrue}
use Rattle.std.specs.List.{range_with_len}
use Rattle.std.proofs.lemmas.Option.{none-some}
use Rattle.hm_model.specs.declared.entry.Entry.{Entry}
use Rattle.hm_model.specs.declared.entry.Call.{Call}
use Rattle.hm_model.specs.declared.entry.Call.TheVariants.{Allot, Fetch}
use Rattle.hm_model.specs.declared.entry.Reply.{Reply}
use Rattle.hm_model.specs.declared.entry.Reply.TheVariants.{Given, Bytes, Trap}
use Rattle.hm_model.specs.declared.entry.Choices.{Choices}
use Rattle.hm_model.specs.Machine.{Legal_split, state_push}
use Rattle.hm_model.specs.Maps.{at, has, removed}
use Rattle.hm_model.specs.Ranges as ranges
use Rattle.hm_model.specs.Runs.{expand}
use Rattle.hm_model.proofs.Lists.{same_eq}
use Rattle.hm_sizes.specs.declared.shape.Shape.{Shape}
use Rattle.hm_class_rules.specs.Laws.{IsGivenAt}
use Rattle.hm_class_rules.specs.Bytes as slots
use Rattle.hm_class_rules.specs.Rules as class
use Rattle.hm_class_rules.specs.State as class_state
use Rattle.hm_class_rules.specs.Steps as class_steps
use Rattle.hm_class_rules.proofs.Zeroed as class_zeroed
use Rattle.hm_large_rules.specs.Bytes as blocks
use Rattle.hm_large_rules.specs.Laws as large_laws
use Rattle.hm_large_rules.specs.Rules as large
use Rattle.hm_large_rules.specs.State as large_state
use Rattle.hm_large_rules.specs.Steps as large_steps
use Rattle.hm_large_rules.proofs.Zeroed as large_zeroed
use Rattle.hm_guarantees.specs.FreedBlocks.{GivesBlock}
use Rattle.hm_guarantees.specs.FreshBytes.{FreshSlots, FreshBlocks}
use Rattle.hm_guarantees.specs.KeptBytes.{byte_after}
use Rattle.hm_guarantees.proofs.FreedBlocks as freed_blocks
use Rattle.hm_guarantees.proofs.KeptBlocks.{kept_blocks}
use Rattle.hm_guarantees.proofs.KeptBytes.{fits, kept_bytes}
use Rattle.hm_guarantees.proofs.Parts.{allows_call}

-- ---- a range of which each byte is known
pub all_read : (byte_at : ℕ → Option ℕ) (f : ℕ → ℕ) (a len : ℕ) → ((q : ℕ) → a ≤ q → q < a + len → byte_at q ≡ Some (f q)) → ranges.bytes_read byte_at a len ≡ map f (range_with_len a len)
all_read byte_at f a zero each = refl
all_read byte_at f a (suc len) each =
    let first : unwrap_or (byte_at a) 0 ≡ f a = ap (λ (o : Option ℕ). unwrap_or o 0) (each a (omega arith) (omega arith)) in
    let rest : ranges.bytes_read byte_at (a + 1) len ≡ map f (range_with_len (a + 1) len) = all_read byte_at f (a + 1) len (λ q low high. each q (omega (arith, low)) (omega (arith, high))) in
    λ i. first i ∷ rest i

pub no_trap : (byte_at : ℕ → Option ℕ) (f : ℕ → ℕ) (a len : ℕ) → ((q : ℕ) → a ≤ q → q < a + len → byte_at q ≡ Some (f q)) → ranges.first_trap byte_at a len ≡ None
no_trap byte_at f a zero each = refl
no_trap byte_at f a (suc len) each =
    ap (λ (o : Option ℕ). cond (is_some o) (ranges.first_trap byte_at (a + 1) len) (Some a)) (each a (omega arith) (omega arith))
    ∙ no_trap byte_at f (a + 1) len (λ q low high. each q (omega (arith, low)) (omega (arith, high)))

-- ---- lists
-- an entry, then some, then one more
module _ {X : Type 0} (before middle : List X) (first last : X) where
  pub as_front : before ++ (first ∷ (middle ++ (last ∷ []))) ≡ ((before ++ first ∷ []) ++ middle) ++ (last ∷ [])
  as_front = sym (append_assoc (before ++ first ∷ []) middle (last ∷ []) ∙ append_assoc before (first ∷ []) (middle ++ (last ∷ [])))

-- ---- slots
pub given_live : (p : Shape) (s : class_state.State) (given : Entry) (a : ℕ) → IsGivenAt given a → class_state.is_live (class_steps.step p s given) a ≡ true
given_live p s given a is =
    ap (λ (c : Call). has a (class_steps.changed p given.choices c given.reply s).live) is.call ∙ ap (λ (r : Reply). has a (class_steps.changed p given.choices (Allot is.asked is.align) r s).live) is.reply
    ∙ ap (λ (t : Bool). is_some (cond t (Some is.asked) (at a (removed a (class_steps.opened p given.choices.opened given.choices.canary s).live)))) (same_eq a a refl)

read_slot : (t : class.Terms) (s : class_state.State) (before now : ℕ) (c : Choices) (from count : ℕ) (reply : Reply) (f : ℕ → ℕ) → IsTrue t.told
    → ((q : ℕ) → from ≤ q → q < from + count → slots.byte_at t.shape s q ≡ Some (f q)) → class.Allows t s before now c (Fetch from count) reply
    → (runs : List (ℕ × ℕ)) × (reply ≡ Bytes runs) × (expand runs ≡ map f (range_with_len from count))
read_slot t s before now c from count (Bytes runs) f told each h = (runs, refl, (h.1 told).1 ∙ all_read (slots.byte_at t.shape s) f from count each)
read_slot t s before now c from count (Trap q) f told each h = absurd (none-some q (sym (no_trap (slots.byte_at t.shape s) f from count each) ∙ h.0 told))
read_slot t s before now c from count reply f told each h = absurd h

pub fresh_slots : FreshSlots
fresh_slots t before middle given e a shape told checks legal is none from count call low high =
    let p : Shape = t.shape in
    let front : List Entry = before ++ given ∷ [] in
    let all = Legal_split (class_steps.step p) (class.Allowed t) class_state.start (front ++ middle) (e ∷ []) (subst (λ (l : List Entry). class.IsLegal t l) (as_front before middle given e) legal) in
    let first = Legal_split (class_steps.step p) (class.Allowed t) class_state.start front middle all.0 in
    let live : class_state.is_live (class.state t front) a ≡ true =
    ap (λ (s : class_state.State). class_state.is_live s a) (state_push (class_steps.step p) (class.Allowed t) class_state.start before given) ∙ given_live p (class.state t before) given a is in
    let each : (q : ℕ) → from ≤ q → q < from + count → slots.byte_at p (class.state t (front ++ middle)) q ≡ Some (byte_after middle q 0) = λ q ge lt.
    let back : a + (q - a) ≡ q = omega (arith, low, ge) in
    let zero_then : slots.byte_at p (class.state t front) q ≡ Some 0 =
    subst (λ (x : ℕ). slots.byte_at p (class.state t front) x ≡ Some 0) back (class_zeroed.zeroed t before given a (q - a) shape first.0 is told checks (omega (arith, low, high, ge, lt))) in
    kept_bytes t front middle a q 0 shape all.0 live none (omega (arith, low, ge)) (omega (arith, fits p shape, high, lt)) zero_then in
    read_slot t (class.state t (front ++ middle)) e.faults_before e.faults_after e.choices from count e.reply (λ q. byte_after middle q 0) told each (allows_call t (class.state t (front ++ middle)) e (Fetch from count) all.1.0 call)

-- ---- large blocks
-- what is given has a guard
pub block_given : (t : large.Terms) (s : large_state.State) (given : Entry) (a asked : ℕ) → large.Allowed t s given → GivesBlock given a asked → large_laws.IsGivenAt given a asked (unwrap_or given.choices.guard 0)
block_given t s given a asked allowed is = record {
  align = is.align;
  size = is.usable;
  call = is.call;
  reply = is.reply;
  guard_is = ap (λ (c : Choices). c.guard) (freed_blocks.allows_at t s given (Allot asked is.align) (Given a is.usable) allowed is.call is.reply).1;
}

pub block_there : (s : large_state.State) (given : Entry) (a asked : ℕ) → GivesBlock given a asked → at a (large_steps.step s given).live ≡ Some (large_steps.new_block asked (unwrap_or given.choices.guard 0))
block_there s given a asked is =
    ap (λ (c : Call). at a (large_steps.changed given c given.reply s).live) is.call ∙ ap (λ (r : Reply). at a (large_steps.changed given (Allot asked is.align) r s).live) is.reply
    ∙ ap (λ (t : Bool). cond t (Some (large_steps.new_block asked (unwrap_or given.choices.guard 0))) (at a s.live)) (same_eq a a refl)

read_block : (t : large.Terms) (s : large_state.State) (e : Entry) (from count : ℕ) (reply : Reply) (f : ℕ → ℕ) → IsTrue t.told
    → ((q : ℕ) → from ≤ q → q < from + count → blocks.byte_at s.live q ≡ Some (f q)) → large.Allows t s e (Fetch from count) reply
    → (runs : List (ℕ × ℕ)) × (reply ≡ Bytes runs) × (expand runs ≡ map f (range_with_len from count))
read_block t s e from count (Bytes runs) f told each h = (runs, refl, (h.1 told).1 ∙ all_read (blocks.byte_at s.live) f from count each)
read_block t s e from count (Trap q) f told each h = absurd (none-some q (sym (no_trap (blocks.byte_at s.live) f from count each) ∙ h.0 told))
read_block t s e from count reply f told each h = absurd h

pub fresh_blocks : FreshBlocks
fresh_blocks t before middle given e a asked told legal is none from count call low high =
    let front : List Entry = before ++ given ∷ [] in
    let all = Legal_split large_steps.step (large.Allowed t) large_state.start (front ++ middle) (e ∷ []) (subst (λ (l : List Entry). large.IsLegal t l) (as_front before middle given e) legal) in
    let first = Legal_split large_steps.step (large.Allowed t) large_state.start front middle all.0 in
    let own = Legal_split large_steps.step (large.Allowed t) large_state.start before (given ∷ []) first.0 in
    let guard : ℕ = unwrap_or given.choices.guard 0 in
    let live : at a (large.state t front).live ≡ Some (large_steps.new_block asked guard) =
    ap (λ (s : large_state.State). at a s.live) (state_push large_steps.step (large.Allowed t) large_state.start before given) ∙ block_there (large.state t before) given a asked is in
    let each : (q : ℕ) → from ≤ q → q < from + count → blocks.byte_at (large.state t (front ++ middle)).live q ≡ Some (byte_after middle q 0) = λ q ge lt.
    let back : a + (q - a) ≡ q = omega (arith, low, ge) in
    let zero_then : blocks.byte_at (large.state t front).live q ≡ Some 0 =
    subst (λ (x : ℕ). blocks.byte_at (large.state t front).live x ≡ Some 0) back
    (large_zeroed.zeroed t before given a asked guard (q - a) first.0 (block_given t (large.state t before) given a asked own.1.0 is) (omega (arith, low, high, ge, lt))) in
    kept_blocks t front middle a q 0 (large_steps.new_block asked guard) all.0 live none (omega (arith, low, ge)) (omega (arith, high, lt)) zero_then in
    read_block t (large.state t (front ++ middle)) e from count e.reply (λ q. byte_after middle q 0) told each (freed_blocks.allows_call t (large.state t (front ++ middle)) e (Fetch from count) all.1.0 call)
