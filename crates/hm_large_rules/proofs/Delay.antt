-- A block in quarantine waits for 1,025 further frees.
use Rattle.std.proofs.Common.{◌≡◌, ◌≢◌, ◌⊎◌, inl, inr, ⊎_elim, ℕ, zero, suc, ◌+◌, ◌<◌, ◌≤◌, ◌==◌, Bool, true, false, cond, ◌||◌, List, [], ◌∷◌, ◌++◌, length, take, Option, Some, None, unwrap_or, sym, ◌∙◌, ap, subst, refl, arith, true≢false}
use Rattle.std.specs.Bool.{MatchBool}
use Rattle.std.proofs.lemmas.Bool.{cases_eq, cases_lt, or_right, MatchBool-at_true}
use Rattle.std.proofs.lemmas.Option.{same_Some}
use Rattle.hm_model.specs.declared.entry.Entry.{Entry}
use Rattle.hm_model.specs.declared.entry.Call.{Call}
use Rattle.hm_model.specs.declared.entry.Call.TheVariants.{Allot, GiveBack, Fill}
use Rattle.hm_model.specs.declared.entry.Reply.{Reply}
use Rattle.hm_model.specs.declared.entry.Reply.TheVariants.{Given, PagesFailed, Freed, Filled}
use Rattle.hm_model.specs.Machine.{state_after, Legal_split, legal_keeps, state_push, state_append}
use Rattle.hm_model.specs.Maps.{among, at, removed}
use Rattle.hm_model.proofs.Lists.{same_eq, other_eq}
use Rattle.hm_quarantine.specs.Delay.{slots_of}
use Rattle.hm_quarantine.specs.LookingBack.{Free}
use Rattle.hm_sizes.specs.declared.config.Config.{Config}
use Rattle.hm_large_rules.specs.State.{Block, Blocks, is_quarantined, State, start}
use Rattle.hm_large_rules.specs.Steps.{new_block, step, changed, takes_back, releases, free_at}
use Rattle.hm_large_rules.specs.Rules.{Terms, Allows, Allowed, ReleasesFor, Releases, AllowsFreed, AllowsGiven}
use Rattle.hm_model.specs.Calls.{IsFreedAt}
use Rattle.hm_large_rules.specs.Laws.{IsSound, IsGivenAt, Meets, Delays}
use Rattle.hm_large_rules.proofs.BlockLists.{at_covered, at_removed, in_space_at, covers_own}
use Rattle.hm_large_rules.proofs.Legal.{sound, sound_step}

-- what stands among the latest few stands among the latest more
take_more : (a m n : ℕ) (xs : List ℕ) → m ≤ n → among a (take m xs) ≡ true → among a (take n xs) ≡ true
take_more a zero n xs le e = absurd (true≢false (sym e))
take_more a (suc m) zero xs le e = absurd (omega arith)
take_more a (suc m) (suc n) [] le e = e
take_more a (suc m) (suc n) (x ∷ xs) le e =
    elim (x == a) as (λ b. (b || among a (take m xs)) ≡ true → (b || among a (take n xs)) ≡ true) [ true ↦ λ h. h | false ↦ λ h. take_more a m n xs (omega arith) h ] e

among_here : (a : ℕ) (xs : List ℕ) → among a (a ∷ xs) ≡ true
among_here a xs = ap (λ (b : Bool). b || among a xs) (same_eq a a refl)

-- the block at a is in quarantine, and its own free stands among the latest k + 1; there were `base` frees up to it
record IsWaiting (a : ℕ) (x : Block) (base : ℕ) (quarantined : Blocks) (frees : List Free) : Type 0 where
  k : ℕ
  quarantined_is : at a quarantined ≡ Some x
  recent : among a (take (suc k) (slots_of frees)) ≡ true
  count : base + k ≡ length frees

-- it waits, or there were as many frees since
abbrev Waits : ℕ → Block → ℕ → State → Type 0
Waits a x base s = IsWaiting a x base s.quarantined s.frees ⊎ (base + 1025 ≤ length s.frees)

-- a release lets it go only after the delay
waits_released : (a : ℕ) (x : Block) (base : ℕ) (s : State) (r : Option ℕ) → Releases s r → Waits a x base s → Waits a x base (releases r s)
waits_released a x base s None allows w = w
waits_released a x base s (Some b) allows w = ⊎_elim (λ l. stays l (cases_eq b a)) (λ late. inr late) w
  where
    stays : IsWaiting a x base s.quarantined s.frees → (b ≡ a) ⊎ (b ≡ a → ⊥) → IsWaiting a x base (removed b s.quarantined) s.frees ⊎ (base + 1025 ≤ length s.frees)
    stays l (inl e) =
        ⊎_elim
        (λ (lt : l.k < 1025). absurd (true≢false (sym (take_more a (suc l.k) 1025 (slots_of s.frees) lt l.recent) ∙ subst (λ (q : ℕ). among q (take 1025 (slots_of s.frees)) ≡ false) e allows.1)))
        (λ (ge : 1025 ≤ l.k). inr (omega (arith, l.count)))
        (cases_lt l.k 1025)
    stays l (inr ne) = inl (record { k = l.k; quarantined_is = at_removed a b s.quarantined ne ∙ l.quarantined_is; recent = l.recent; count = l.count })

-- no block is live and in quarantine
pub apart_keys : (c : Config) (s : State) (a : ℕ) (x y : Block) → IsSound c s → at a s.live ≡ Some x → at a s.quarantined ≡ Some y → ⊥
apart_keys c s a x y h p r =
    let one = at_covered a a x s.live p (covers_own c (a, x) (in_space_at c a x s.live h.live p)) in
    let two = at_covered a a y s.quarantined r (covers_own c (a, y) (in_space_at c a y s.quarantined h.quarantined r)) in
    omega (arith, one, two, h.once a)

-- a further block comes into quarantine
waits_pushed : (a : ℕ) (x : Block) (base : ℕ) (c : Config) (s : State) (b word : ℕ) (y : Block) → IsSound c s → at b s.live ≡ Some y → Waits a x base s
    → Waits a x base (record s { live = removed b s.live; quarantined = (b, y) ∷ s.quarantined; frees = free_at b word ∷ s.frees })
waits_pushed a x base c s b word y h e w =
    ⊎_elim
    (λ l. (let ne : b ≢ a = λ same. apart_keys c s a y x h (subst (λ (q : ℕ). at q s.live ≡ Some y) same e) l.quarantined_is in
    inl (record {
      k = suc l.k;
      quarantined_is = ap (λ (t : Bool). cond t (Some y) (at a s.quarantined)) (other_eq b a ne) ∙ l.quarantined_is;
      recent = or_right (b == a) (among a (take (suc l.k) (slots_of s.frees))) l.recent;
      count = omega (arith, l.count);
    })))
    (λ late. inr (omega arith))
    w

waits_freed : (a : ℕ) (x : Block) (base : ℕ) (c : Config) (s : State) (b word : ℕ) (o : Option Block) (r : Option ℕ) → IsSound c s → at b s.live ≡ o
    → ReleasesFor o (takes_back b word o s) r → Waits a x base s → Waits a x base (releases r (takes_back b word o s))
waits_freed a x base c s b word None r h e allows w = absurd allows
waits_freed a x base c s b word (Some y) r h e allows w =
    let pushed : State = record s { live = removed b s.live; quarantined = (b, y) ∷ s.quarantined; frees = free_at b word ∷ s.frees } in
    let left : State = record s { live = removed b s.live } in
    elim (is_quarantined y) as (λ t. MatchBool t (Releases (cond t pushed left) r) (r ≡ None) → Waits a x base (releases r (cond t pushed left))) [
      | true ↦ λ k. waits_released a x base pushed r k (waits_pushed a x base c s b word y h e w)
      | false ↦ λ k. subst (λ (o : Option ℕ). Waits a x base (releases o left)) (sym k) w
    ] allows

waits_changed : (a : ℕ) (x : Block) (base : ℕ) (t : Terms) (s : State) (e : Entry) (call : Call) (reply : Reply) → IsSound t.config s → Allows t s e call reply → Waits a x base s
    → Waits a x base (changed e call reply s)
waits_changed a x base t s e (Allot asked align) (Given b size) h allows w = w
waits_changed a x base t s e (GiveBack b stated) PagesFailed h allows w = w
waits_changed a x base t s e (GiveBack b stated) Freed h allows w = waits_freed a x base t.config s b e.draws.w0 (at b s.live) e.choices.released h refl allows.release w
waits_changed a x base t s e (Fill b runs) Filled h allows w = w
waits_changed a x base t s e call reply h allows w = w

abbrev Keeps : ℕ → Block → ℕ → Config → State → Type 0
Keeps a x base c s = IsSound c s × Waits a x base s

waits_step : (a : ℕ) (x : Block) (base : ℕ) (t : Terms) (s : State) (e : Entry) → Keeps a x base t.config s → Allowed t s e → Keeps a x base t.config (step s e)
waits_step a x base t s e h allowed = (sound_step t s e h.0 allowed, waits_changed a x base t s e e.call e.reply h.0 allowed.allows h.1)

released_frees : (r : Option ℕ) (s : State) → (releases r s).frees ≡ s.frees
released_frees None s = refl
released_frees (Some b) s = refl

from_small : (x : Block) (o : Option Block) (q : State) (r : Option ℕ) → o ≡ Some x → is_quarantined x ≡ true → ReleasesFor o q r → Releases q r
from_small x None q r e small k = absurd k
from_small x (Some y) q r e small k = MatchBool-at_true (Releases q r) (r ≡ None) (ap is_quarantined (same_Some y x e) ∙ small) k

-- a freed block begins to wait
waits_start : (s : State) (a word : ℕ) (x : Block) (o : Option Block) (r : Option ℕ) → o ≡ Some x → is_quarantined x ≡ true
    → ReleasesFor o (takes_back a word o s) r → let s' = releases r (takes_back a word o s) in Waits a x (length s'.frees) s'
waits_start s a word x o r e small allows =
    let pushed : State = record s { live = removed a s.live; quarantined = (a, x) ∷ s.quarantined; frees = free_at a word ∷ s.frees } in
    let left : State = record s { live = removed a s.live } in
    let same : takes_back a word o s ≡ pushed = ap (λ (q : Option Block). takes_back a word q s) e ∙ ap (λ (t : Bool). cond t pushed left) small in
    let ok : Releases pushed r = subst (λ (q : State). Releases q r) same (from_small x o (takes_back a word o s) r e small allows) in
    let fresh : Waits a x (length pushed.frees) pushed = inl (record {
      k = 0;
      quarantined_is = ap (λ (t : Bool). cond t (Some x) (at a s.quarantined)) (same_eq a a refl);
      recent = among_here a (take 0 (slots_of s.frees));
      count = omega arith;
    }) in
    let w : Waits a x (length pushed.frees) (releases r pushed) = waits_released a x (length pushed.frees) pushed r ok fresh in
    let w' : Waits a x (length (releases r pushed).frees) (releases r pushed) = subst (λ (l : List Free). Waits a x (length l) (releases r pushed)) (sym (released_frees r pushed)) w in
    subst (λ (q : State). let s' = releases r q in Waits a x (length s'.frees) s') (sym same) w'

freed_waits : (t : Terms) (s : State) (f : Entry) (a : ℕ) (x : Block) → Allowed t s f → IsFreedAt f a → at a s.live ≡ Some x → is_quarantined x ≡ true
    → let s' = step s f in Waits a x (length s'.frees) s'
freed_waits t s f a x allowed is live small =
    let allows : AllowsFreed s f.draws.w0 f.choices a is.stated =
    subst (λ (r : Reply). Allows t s f (GiveBack a is.stated) r) is.reply (subst (λ (c : Call). Allows t s f c f.reply) is.call allowed.allows) in
    subst (λ (r : Reply). let s' = changed f f.call r s in Waits a x (length s'.frees) s') (sym is.reply)
    (subst (λ (c : Call). let s' = changed f c Freed s in Waits a x (length s'.frees) s') (sym is.call)
    (waits_start s a f.draws.w0 x (at a s.live) f.choices.released live small allows.release))

-- no given block meets one in quarantine
given_late : (t : Terms) (s : State) (g : Entry) (a b asked guard base : ℕ) (x : Block) → Allowed t s g → IsGivenAt g b asked guard → Meets (a, x) (b, new_block asked guard)
    → Waits a x base s → base + 1025 ≤ length s.frees
given_late t s g a b asked guard base x allowed is meets w =
    let allows : AllowsGiven t s (unwrap_or g.choices.guard 0) asked is.align b is.size =
    (subst (λ (r : Reply). Allows t s g (Allot asked is.align) r) is.reply (subst (λ (c : Call). Allows t s g c g.reply) is.call allowed.allows)).0 in
    let own : AllowsGiven t s guard asked is.align b is.size = subst (λ (o : Option ℕ). AllowsGiven t s (unwrap_or o 0) asked is.align b is.size) is.guard_is allows in
    ⊎_elim (λ l. absurd (omega (arith, own.0.fits.free meets.address meets.second, at_covered meets.address a x s.quarantined l.quarantined_is meets.first))) (λ late. late) w

pub delays : Delays
delays t es middle fs f g a b asked guard x legal freed live small given meets =
    let p₀ = Legal_split step (Allowed t) start es (f ∷ (middle ++ (g ∷ fs))) legal in
    let s₀ : State = state_after step (Allowed t) start es in
    let p₁ = Legal_split step (Allowed t) (step s₀ f) middle (g ∷ fs) p₀.1.1 in
    let s₁ : State = state_after step (Allowed t) (step s₀ f) middle in
    let base : ℕ = length (step s₀ f).frees in
    let begun : Keeps a x base t.config (step s₀ f) = (sound_step t s₀ f (sound t es p₀.0) p₀.1.0, freed_waits t s₀ f a x p₀.1.0 freed live small) in
    let w = legal_keeps step (Allowed t) (Keeps a x base t.config) (waits_step a x base t) (step s₀ f) middle begun p₁.0 in
    let late : base + 1025 ≤ length s₁.frees = given_late t s₁ g a b asked guard base x p₁.1.0 given meets w.1 in
    let first = ap (λ (s : State). length s.frees) (state_push step (Allowed t) start es f) in
    let last = ap (λ (s : State). length s.frees) (state_append step (Allowed t) start es (f ∷ middle)) in
    omega (arith, late, first, last)
