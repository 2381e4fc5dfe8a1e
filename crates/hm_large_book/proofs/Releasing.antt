-- What leaves the quarantine.
use Rattle.std.proofs.Common.{◌≡◌, ℕ, ◌+◌, ◌-◌, ◌*◌, ◌<◌, ◌≤◌, ◌^◌, Bool, true, false, not, ◌&&◌, List, length, take, Option, Some, None, option_map, is_some, refl, sym, ◌∙◌, ap, subst, arith, true≢false}
use Rattle.std.specs.Prelude.{IsTrue, ◌↔◌, nat_le}
use Rattle.std.proofs.lemmas.Bool.{and_parts, and_from, le-leb, leb-true}
use Rattle.std.proofs.lemmas.Option.{same_Some}
use Rattle.hm_model.specs.Maps.{at, has, among, removed}
use Rattle.hm_quarantine.specs.Delay.{delay, slots_of}
use Rattle.hm_sizes.specs.declared.config.Config.{Config}
use Rattle.hm_space.specs.Space.{MeetsNoFree, GivesRange}
use Rattle.hm_large_rules.specs.State.{Block, State, array_length, ring_length}
use Rattle.hm_large_rules.specs.Steps.{releases}
use Rattle.hm_large_rules.specs.Rules.{Releases}
use Rattle.hm_large.specs.Kept.{kept_of}
use Rattle.hm_large_rules.specs.Laws.{IsSound}
use Rattle.hm_large.specs.Frees.{GoesBack}
use Rattle.hm_large_book.specs.declared.blocks.BlockBook.{BlockBook}
use Rattle.hm_large_book.specs.declared.blocks.Extent.{Extent}
use Rattle.hm_large_book.specs.Book.{extent_of, ShowsBlocks}
use Rattle.hm_large_book.specs.Changes.{IsShown, IsLive}
use Rattle.hm_large_book.proofs.Changing.{goes_live, goes_quarantined, shows_let_go, quarantined_is, quarantined_has, quarantined_others, extent_some}

not_yes : (b : Bool) → b ≡ false → not b ≡ true
not_yes b e = ap not e

not_no : (b : Bool) → not b ≡ true → b ≡ false
not_no true e = sym e
not_no false e = refl

-- whether a block may leave
pub may_leave : (c : Config) (s : State) (k : BlockBook) (released : Option ℕ) (a : ℕ) (one : List (ℕ × Extent)) (recent : List ℕ) (two : List (ℕ × Extent)) (found : Option Extent) (quarantined late : Bool) (left : ℕ)
    → ShowsBlocks c s k → released ≡ Some a → one ≡ k.quarantined.items → recent ≡ k.recent.items → two ≡ k.quarantined.items → found ≡ at a one → quarantined ≡ is_some found → late ≡ among a recent → left ≡ length (removed a two)
    → (IsTrue ((quarantined && not late) && nat_le left 1280) → Releases s released) × (Releases s released → IsTrue ((quarantined && not late) && nat_le left 1280))
may_leave c s k released a one recent two found quarantined late left shows is same_one same_recent same_two found_is quarantined_is late_is left_is =
    subst (λ (r : Option ℕ). (IsTrue ((quarantined && not late) && nat_le left 1280) → Releases s r) × (Releases s r → IsTrue ((quarantined && not late) && nat_le left 1280))) (sym is) (to, from)
  where
    has_quarantined : quarantined ≡ has a s.quarantined
    has_quarantined = quarantined_is ∙ ap is_some (found_is ∙ ap (at a) same_one) ∙ quarantined_has c s k shows a

    is_late : late ≡ among a (take (delay array_length ring_length) (slots_of s.frees))
    is_late = late_is ∙ ap (among a) (same_recent ∙ shows.recent)

    are_left : left ≡ length (removed a s.quarantined)
    are_left = left_is ∙ ap (λ (m : List (ℕ × Extent)). length (removed a m)) same_two ∙ quarantined_others c s k shows a

    to : IsTrue ((quarantined && not late) && nat_le left 1280) → Releases s (Some a)
    to e =
        let outer = and_parts (quarantined && not late) (nat_le left 1280) e in
        let inner = and_parts quarantined (not late) outer.0 in
        (sym has_quarantined ∙ inner.0, sym is_late ∙ not_no late inner.1, omega (arith, leb-true left 1280 outer.1, are_left))

    from : Releases s (Some a) → IsTrue ((quarantined && not late) && nat_le left 1280)
    from r = and_from (quarantined && not late) (nat_le left 1280) (and_from quarantined (not late) (has_quarantined ∙ r.0) (not_yes late (is_late ∙ r.1))) (le-leb left 1280 (omega (arith, r.2, are_left)))

-- ---- a block that leaves
-- the range of an extent can be put back
pub record GoesOut (k : BlockBook) (a : ℕ) (extent : Extent) : Type 0 where
  pub some : 1 ≤ extent.size
  pub most : extent.size ≤ 2 ^ 30
  pub guard : extent.guard ≤ 2 ^ 32
  pub front : 4096 * extent.guard ≤ a
  pub below : a + extent.size + 4096 * extent.guard < 2 ^ 64
  pub apart : MeetsNoFree k.space (a - 4096 * extent.guard) (extent.size + 2 * (4096 * extent.guard))
  pub out : 1 ≤ k.space.out

goes_as : (k : BlockBook) (a : ℕ) (extent : Extent) (x : Block) (kept : Bool) → extent ≡ extent_of x → GoesBack k.space a (kept_of kept x) → GoesOut k a extent
goes_as k a extent x kept reach g = subst (GoesOut k a) (sym reach) (record { some = g.some; most = g.most; guard = g.guard; front = g.front; below = g.below; apart = g.apart; out = g.out })

pub live_goes : (k : BlockBook) (a : ℕ) (extent : Extent) → IsLive k a extent → GoesOut k a extent
live_goes k a extent h = goes_as k a extent h.block false h.reach (goes_live h.shown.config h.shown.s k a h.block h.shown.sound h.shown.shows h.there h.shown.valid)

pub extent_goes : (k : BlockBook) (a : ℕ) (extent : Extent) (quarantined : List (ℕ × Extent)) → IsShown k → quarantined ≡ k.quarantined.items → Some extent ≡ at a quarantined → GoesOut k a extent
extent_goes k a extent quarantined h same is =
    let x = extent_some (at a h.s.quarantined) extent (sym (quarantined_is h.config h.s k h.shows a) ∙ ap (at a) (sym same) ∙ sym is) in
    goes_as k a extent x.0 true x.2 (goes_quarantined h.config h.s k a x.0 h.sound h.shows x.1 h.valid)

module _ (c : Config) (s : State) (k : BlockBook) where
  pub let_go_some : (new : BlockBook) (a : ℕ) (x : Block) (extent : Extent) (quarantined : List (ℕ × Extent)) → IsSound c s → ShowsBlocks c s k → at a s.quarantined ≡ Some x → quarantined ≡ k.quarantined.items → Some extent ≡ at a quarantined
      → new.quarantined.items ≡ removed a k.quarantined.items → GivesRange k.space new.space (a - 4096 * extent.guard) (extent.size + 2 * (4096 * extent.guard)) → new.space.out + 1 ≡ k.space.out
      → new.live.items ≡ k.live.items → new.recent.items ≡ k.recent.items → ShowsBlocks c (record s { quarantined = removed a s.quarantined }) new
  let_go_some new a x extent quarantined sound shows there same is left gives out live recent =
      let reach : extent ≡ extent_of x = same_Some extent (extent_of x) (is ∙ ap (at a) same ∙ quarantined_is c s k shows a ∙ ap (option_map extent_of) there) in
      shows_let_go c s k a x sound shows there new live left recent (subst (λ (r : Extent). GivesRange k.space new.space (a - 4096 * r.guard) (r.size + 2 * (4096 * r.guard))) reach gives) out

  pub let_go_none : (a : ℕ) (x : Block) (quarantined : List (ℕ × Extent)) (found : Option Extent) → ShowsBlocks c s k → at a s.quarantined ≡ Some x → quarantined ≡ k.quarantined.items → found ≡ at a quarantined → ((extent : Extent) → found ≡ Some extent → ⊥) → ⊥
  let_go_none a x quarantined found shows there same is none = none (extent_of x) (is ∙ ap (at a) same ∙ quarantined_is c s k shows a ∙ ap (option_map extent_of) there)

-- ---- what may leave does
pub none_leaves : (may : Bool) → may ≡ false → may ≡ true → ⊥
none_leaves may off on = true≢false (sym on ∙ off)

pub block_leaves : (c : Config) (s : State) (new : BlockBook) (released : Option ℕ) (a : ℕ) (may : Bool) → released ≡ Some a → may ≡ true → IsTrue may ↔ Releases s released
    → ((x : Block) → at a s.quarantined ≡ Some x → ShowsBlocks c (record s { quarantined = removed a s.quarantined }) new) → Releases s released × ShowsBlocks c (releases released s) new
block_leaves c s new released a may is on exact shows =
    let r : Releases s (Some a) = subst (Releases s) is (exact.0 on) in
    let x = found (at a s.quarantined) refl r.0 in
    (exact.0 on, subst (λ (o : Option ℕ). ShowsBlocks c (releases o s) new) (sym is) (shows x.0 x.1))
  where
    found : (o : Option Block) → at a s.quarantined ≡ o → is_some (at a s.quarantined) ≡ true → (x : Block) × (at a s.quarantined ≡ Some x)
    found None f some = absurd (true≢false (sym some ∙ ap is_some f))
    found (Some y) f some = (y, f)

pub stays : (c : Config) (s : State) (k : BlockBook) (released : Option ℕ) (may : Bool) → ((a : ℕ) → released ≡ Some a → ⊥) → may ≡ true → IsTrue may ↔ Releases s released → ShowsBlocks c s k
    → Releases s released × ShowsBlocks c (releases released s) k
stays c s k None may none on exact shows = (exact.0 on, shows)
stays c s k (Some a) may none on exact shows = absurd (none a refl)
