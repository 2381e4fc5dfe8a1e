-- Laws of all legal histories of the large region.
use Rattle.std.proofs.Common.{◌≡◌, ◌≢◌, ◌⊎◌, inl, inr, ⊎_elim, ℕ, ◌+◌, ◌-◌, ◌*◌, ◌%◌, ◌/◌, ◌==◌, ◌<◌, ◌≤◌, ◌^◌, max, Bool, true, false, cond, not, List, [], ◌∷◌, Option, Some, None, unwrap_or, sym, ◌∙◌, ap, subst, refl, arith, mul_assoc}
use lib.Pow.{pow_mono}
use Rattle.std.proofs.lemmas.Bool.{cases_lt, and_from, le-leb, lt-ltb}
use Rattle.std.proofs.lemmas.Bool.Decides.{nat_tests}
use Rattle.std.proofs.lemmas.Nat.{pow-add, div-add-mod'}
use Rattle.std.proofs.lemmas.List.{length-replicate}
use Rattle.hm_model.specs.declared.entry.Entry.{Entry}
use Rattle.hm_model.specs.declared.entry.Call.{Call}
use Rattle.hm_model.specs.declared.entry.Call.TheVariants.{Allot, GiveBack, Fill}
use Rattle.hm_model.specs.declared.entry.Reply.{Reply}
use Rattle.hm_model.specs.declared.entry.Reply.TheVariants.{Given, PagesFailed, Freed, Filled}
use Rattle.hm_model.specs.Machine.{state_after, Legal_push, Legal_split, legal_keeps}
use Rattle.hm_model.specs.Maps.{times, at, removed, keys}
use Rattle.hm_model.specs.Runs.{expand}
use Rattle.hm_sizes.specs.Aligned.{IsAlignment}
use Rattle.hm_sizes.specs.Laws.{IsLargeSize}
use Rattle.hm_sizes.specs.Sizes.{raised}
use Rattle.hm_sizes.proofs.LargeSizes.{large_sizes}
use Rattle.hm_sizes.specs.declared.config.Config.{Config}
use Rattle.hm_large_rules.specs.State.{Block, Blocks, size_for, is_quarantined, spans, covers, how_many, covered, State, start, taken}
use Rattle.hm_large_rules.specs.Steps.{new_block, mark, marked, step, changed, takes_back, releases, free_at}
use Rattle.hm_large_rules.specs.Bytes.{overlay, overlaid_blocks}
use Rattle.hm_large_rules.specs.Rules.{Terms, Allows, Allowed, Asks, state, IsCandidate}
use Rattle.hm_large_rules.specs.Laws.{IsInSpace, IsSound, Sound, Prefixes, OneMore, OneLess, Apart}
use Rattle.hm_large_rules.proofs.BlockLists.{weight, how_many_removed, how_many_same, at_covered, times_covered, in_space_at, placed_removed, placed_same, placed_overlay, placed_mark, covers_own, at_removed}

-- ---- prefixes
pub prefixes : Prefixes
prefixes t es fs legal = (Legal_split step (Allowed t) start es fs legal).0

pub one_more : OneMore
one_more t es e legal allowed = Legal_push step (Allowed t) start es e legal allowed

pub one_less : OneLess
one_less t es e legal = let r = Legal_split step (Allowed t) start es (e ∷ []) legal in (r.0, r.1.0)

-- the state does not depend on what is allowed
pub state_same : (A B : State → Entry → Type 0) (s : State) (es : List Entry) → state_after step A s es ≡ state_after step B s es
state_same A B s [] = refl
state_same A B s (e ∷ es) = state_same A B (step s e) es

-- ---- sizes and addresses of new blocks
raised_most : (asked : ℕ) → asked ≤ 2 ^ 30 → raised asked ≤ 2 ^ 30
raised_most asked most = grind (arith, nat_tests)

pub size_is : (asked : ℕ) → asked ≤ 2 ^ 30 → IsLargeSize (raised asked) (size_for asked)
size_is asked most = large_sizes (raised asked) (raised_most asked most)

-- a multiple of an alignment, or of a page where that is greater, is one of a page
pub page_aligned : (align a : ℕ) → IsAlignment align → a % max align 4096 ≡ 0 → a % 4096 ≡ 0
page_aligned align a (k, le, e) h =
    ⊎_elim (λ (less : k < 12). below (omega (arith, e, power_rises k 12 (omega arith)))) (λ (more : 12 ≤ k). above more) (cases_lt k 12)
  where
    power_rises : (i j : ℕ) → i ≤ j → 2 ^ i ≤ 2 ^ j
    power_rises i j le = pow_mono le

    below : align ≤ 4096 → a % 4096 ≡ 0
    below less = let same : max align 4096 ≡ 4096 = omega arith in subst (λ (m : ℕ). a % m ≡ 0) same h

    whole : (z : ℕ) → a ≡ z * 4096 → a % 4096 ≡ 0
    whole z e = omega arith

    above : 12 ≤ k → a % 4096 ≡ 0
    above more =
        let c : ℕ = 2 ^ (k - 12) in
        let parts : align ≡ c * 4096 = e ∙ (ap (λ (n : ℕ). 2 ^ n) (omega arith) ∙ pow-add 2 (k - 12) 12) in
        let some : 1 ≤ c = power_rises 0 (k - 12) (omega arith) in
        let same : max align 4096 ≡ align = omega (arith, parts, some) in
        let none : a % align ≡ 0 = subst (λ (m : ℕ). a % m ≡ 0) same h in
        let all : (a / align) * align ≡ a = omega (arith, div-add-mod' a align, none) in
        whole ((a / align) * c) (sym all ∙ (ap (λ (m : ℕ). (a / align) * m) parts ∙ sym (mul_assoc (a / align) c 4096)))

pub placed_new : (c : Config) (s : State) (align asked guard a : ℕ) → asked ≤ 2 ^ 30 → IsAlignment align → IsCandidate c s align (size_for asked) guard a → IsInSpace c (a, new_block asked guard)
placed_new c s align asked guard a most is h =
    let size = size_is asked most in
    record { from = h.from; to = h.to; aligned = page_aligned align a is h.aligned; some = size.some; pages = size.pages; most = size.most; whole = length-replicate (size_for asked) 0 }

-- ---- every step keeps the blocks sound
sound_gives : (c : Config) (s : State) (align asked guard a : ℕ) → asked ≤ 2 ^ 30 → IsAlignment align → IsCandidate c s align (size_for asked) guard a → IsSound c s
    → IsSound c (record s { live = (a, new_block asked guard) ∷ s.live })
sound_gives c s align asked guard a most is k h = record {
  live = (placed_new c s align asked guard a most is k, h.live);
  quarantined = h.quarantined;
  once = λ q. by_cover q (spans a (size_for asked) guard q) refl;
}
  where
    by_cover : (q : ℕ) (b : Bool) → spans a (size_for asked) guard q ≡ b → covered q ((a, new_block asked guard) ∷ s.live) + covered q s.quarantined ≤ 1
    by_cover q true e =
        let one : weight (spans a (size_for asked) guard q) ≡ 1 = ap weight e in
        omega (arith, one, k.free q e)
    by_cover q false e =
        let none : weight (spans a (size_for asked) guard q) ≡ 0 = ap weight e in
        omega (arith, none, h.once q)

sound_marked : (c : Config) (s : State) (a : ℕ) → IsSound c s → IsSound c (record s { live = marked a s.live })
sound_marked c s a h = record {
  live = placed_same c (mark a) (placed_mark c a) s.live h.live;
  quarantined = h.quarantined;
  once = λ q. omega (arith, how_many_same (covers q) (mark a) (λ e. refl) s.live, h.once q);
}

sound_written : (c : Config) (s : State) (a : ℕ) (w : List ℕ) → IsSound c s → IsSound c (record s { live = overlaid_blocks a w s.live })
sound_written c s a w h = record {
  live = placed_same c (overlay a w) (placed_overlay c a w) s.live h.live;
  quarantined = h.quarantined;
  once = λ q. omega (arith, how_many_same (covers q) (overlay a w) (λ e. refl) s.live, h.once q);
}

-- an address is a key once at most
pub live_once : (c : Config) (s : State) (a : ℕ) → IsSound c s → times a (keys s.live) ≤ 1
live_once c s a h = omega (arith, times_covered c a s.live h.live, h.once a)

pub quarantined_once : (c : Config) (s : State) (a : ℕ) → IsSound c s → times a (keys s.quarantined) ≤ 1
quarantined_once c s a h = omega (arith, times_covered c a s.quarantined h.quarantined, h.once a)

sound_leaves : (c : Config) (s : State) (a : ℕ) (x : Block) → at a s.live ≡ Some x → IsSound c s → IsSound c (record s { live = removed a s.live })
sound_leaves c s a x e h = record {
  live = placed_removed c a s.live h.live;
  quarantined = h.quarantined;
  once = λ q. omega (arith, how_many_removed (covers q) a x s.live e (live_once c s a h), h.once q);
}

sound_holds : (c : Config) (s : State) (a : ℕ) (x : Block) → at a s.live ≡ Some x → IsSound c s → IsSound c (record s { live = removed a s.live; quarantined = (a, x) ∷ s.quarantined })
sound_holds c s a x e h = record {
  live = placed_removed c a s.live h.live;
  quarantined = (in_space_at c a x s.live h.live e, h.quarantined);
  once = λ q. omega (arith, how_many_removed (covers q) a x s.live e (live_once c s a h), h.once q);
}

pub sound_takes_back : (c : Config) (s : State) (a word : ℕ) (o : Option Block) → at a s.live ≡ o → IsSound c s → IsSound c (takes_back a word o s)
sound_takes_back c s a word None e h = h
sound_takes_back c s a word (Some x) e h =
    elim (is_quarantined x) as (λ b. IsSound c (cond b (record s { live = removed a s.live; quarantined = (a, x) ∷ s.quarantined; frees = free_at a word ∷ s.frees }) (record s { live = removed a s.live }))) [
      | true ↦ (let k = sound_holds c s a x e h in record { live = k.live; quarantined = k.quarantined; once = k.once })
      | false ↦ sound_leaves c s a x e h
    ]

pub sound_releases : (c : Config) (s : State) (o : Option ℕ) → IsSound c s → IsSound c (releases o s)
sound_releases c s None h = h
sound_releases c s (Some b) h = record {
  live = h.live;
  quarantined = placed_removed c b s.quarantined h.quarantined;
  once = λ q. omega (arith, covered_less (covers q) b s.quarantined, h.once q);
}
  where
    covered_less : (test : ℕ × Block → Bool) (a : ℕ) (m : Blocks) → how_many test (removed a m) ≤ how_many test m
    covered_less test a [] = omega arith
    covered_less test a (y ∷ m) =
        elim (y.0 == a) as (λ t. how_many test (cond (not t) (y ∷ removed a m) (removed a m)) ≤ how_many test (y ∷ m)) [
          | true ↦ omega (arith, covered_less test a m)
          | false ↦ omega (arith, covered_less test a m)
        ]

sound_changed : (t : Terms) (s : State) (e : Entry) (call : Call) (reply : Reply) → Asks call → Allows t s e call reply → IsSound t.config s → IsSound t.config (changed e call reply s)
sound_changed t s e (Allot asked align) (Given a size) asks allows h = sound_gives t.config s align asked (unwrap_or e.choices.guard 0) a asks.0 asks.1 allows.0.0.fits h
sound_changed t s e (GiveBack a stated) PagesFailed asks allows h = sound_marked t.config s a h
sound_changed t s e (GiveBack a stated) Freed asks allows h = sound_releases t.config _ e.choices.released (sound_takes_back t.config s a e.draws.w0 (at a s.live) refl h)
sound_changed t s e (Fill a runs) Filled asks allows h = sound_written t.config s a (expand runs) h
sound_changed t s e call reply asks allows h = h

pub sound_step : (t : Terms) (s : State) (e : Entry) → IsSound t.config s → Allowed t s e → IsSound t.config (step s e)
sound_step t s e h allowed = (let k = sound_changed t s e e.call e.reply allowed.asks allowed.allows h in record { live = k.live; quarantined = k.quarantined; once = k.once })

pub sound : Sound
sound t es legal = legal_keeps step (Allowed t) (IsSound t.config) (sound_step t) start es (record { live = tt; quarantined = tt; once = λ q. omega arith }) legal

-- ---- live blocks never overlap
pub apart : Apart
apart t es a b x y legal p r ne =
    ⊎_elim (λ (lt : a < b). before a b x y p r ne lt) (λ (le : b ≤ a). ⊎_elim inr inl (before b a y x r p (λ e. ne (sym e)) (omega arith))) (cases_lt a b)
  where
    live : Blocks
    live = (state t es).live

    h : IsSound t.config (state t es)
    h = sound t es legal

    before : (a b : ℕ) (x y : Block) → at a live ≡ Some x → at b live ≡ Some y → a ≢ b → a < b → (a + x.size ≤ b) ⊎ (b + y.size ≤ a)
    before a b x y p r ne lt = ⊎_elim (λ (in_x : b < a + x.size). absurd (omega (arith, twice in_x, h.once b))) (λ (past : a + x.size ≤ b). inl past) (cases_lt b (a + x.size))
      where
        twice : b < a + x.size → 2 ≤ taken (state t es) b
        twice in_x =
            let first : covers b (a, x) ≡ true = and_from _ _ (le-leb a (b + 4096 * x.guard) (omega arith)) (lt-ltb b (a + x.size + 4096 * x.guard) (omega arith)) in
            let one : weight (covers b (a, x)) ≡ 1 = ap weight first in
            let second = covers_own t.config (b, y) (in_space_at t.config b y live h.live r) in
            let other = at_covered b b y (removed a live) (at_removed b a live ne ∙ r) second in
            omega (arith, how_many_removed (covers b) a x live p (live_once t.config (state t es) a h), one, other)
