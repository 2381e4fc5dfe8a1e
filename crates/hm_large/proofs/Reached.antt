-- What is kept once bytes are read or written.
use Rattle.std.proofs.Common.{◌≡◌, ◌⊎◌, inl, inr, ⊎_elim, ℕ, ◌+◌, ◌-◌, ◌<◌, ◌≤◌, ◌==◌, Bool, true, false, cond, not, IsTrue, List, [], ◌∷◌, ◌++◌, map, length, take, drop, Option, Some, None, is_some, option_map, unwrap_or, sym, ◌∙◌, ap, subst, refl, arith}
use Rattle.std.specs.Option.{IfSome, IsSome}
use Rattle.std.specs.FinMap as finite
use Rattle.std.specs.FinMap.{get-insert}
use Rattle.std.proofs.lemmas.Bool.{cases_eq, cases_lt}
use Rattle.std.proofs.lemmas.Cmp.{nat_cmp_total}
use Rattle.std.proofs.lemmas.Option.{none-some, same_Some}
use Rattle.hm_model.specs.declared.entry.Entry.{Entry}
use Rattle.hm_model.specs.declared.entry.Who.{Who}
use Rattle.hm_model.specs.declared.entry.Call.{Call}
use Rattle.hm_model.specs.declared.entry.Call.TheVariants as call
use Rattle.hm_model.specs.declared.entry.Reply.{Reply}
use Rattle.hm_model.specs.declared.entry.Reply.TheVariants as reply
use Rattle.hm_model.specs.Calls.{IsRange, no_choices, no_words, entry_of}
use Rattle.hm_model.specs.Replies.{IsWithin, IsFetchReply, IsFillReply}
use Rattle.hm_model.specs.Machine.{legal_keeps}
use Rattle.hm_model.specs.Maps.{at, removed}
use Rattle.hm_model.specs.Overlaid.{overlaid}
use Rattle.hm_model.specs.Runs.{expand}
use Rattle.hm_model.proofs.Lists.{same_eq, other_eq, eq_same}
use Rattle.hm_model.proofs.Overlaid.{overlaid_apart, overlaid_written}
use Rattle.hm_outside.specs.declared.pages.Pages as pages
use Rattle.hm_base.specs.Lists.{written}
use Rattle.hm_outside.specs.PageRuns.{PageRuns, Reads, Writes, IsHeld}
use Rattle.hm_sizes.specs.declared.config.Config.{Config}
use Rattle.hm_large.specs.declared.store.Store.{Store}
use Rattle.hm_large.specs.declared.access.Fetched.{Fetched}
use Rattle.hm_large.specs.declared.access.Fetched.TheVariants as fetched
use Rattle.hm_large.specs.Access.{fetch_reply, fill_reply, IsRead, SameButPageRuns, AreDisjoint}
use Rattle.hm_large_rules.specs.Bytes.{HeldByNone, first_trap, bytes_read, overlay, overlaid_blocks}
use Rattle.hm_large_rules.specs.State.{Block, Blocks, covers, covered, is_quarantined, is_owed, State, start, AreGuarded}
use Rattle.hm_large_rules.specs.Steps.{mark, step, changed, takes_back, releases, free_at}
use Rattle.hm_large_rules.specs.Rules.{Allowed, state}
use Rattle.hm_large_rules.specs.Drawn.{IsDrawnEntry, IsDrawnEvent}
use Rattle.hm_large_rules.specs.Laws.{IsSound}
use Rattle.hm_large.specs.Region.{HoldsBlocks}
use Rattle.hm_large.specs.Kept.{kept_or, Shows, IsKept}
use Rattle.hm_large_rules.proofs.BlockLists.{in_space_at, covers_own, how_many_same, length_same}
use Rattle.hm_large_rules.proofs.Candidates.{spans_from}
use Rattle.hm_large_rules.proofs.SizeMaps.{map_test}
use Rattle.hm_large.proofs.Accessed.{bytes_there, byte_there, no_trap, two_covered}
use Rattle.hm_large_rules.proofs.Legal.{live_once, state_same}
use Rattle.hm_large.proofs.Entries.{AreSame, all_same, terms_of, kept_sound, kept_plain, kept_push, shows_step, none_drawn}

-- ---- each live block has a guard
guarded_removed : (a : ℕ) (m : Blocks) → AreGuarded m → AreGuarded (removed a m)
guarded_removed a [] h = tt
guarded_removed a (y ∷ m) h = elim (y.0 == a) as (λ t. AreGuarded (cond (not t) (y ∷ removed a m) (removed a m))) [ true ↦ guarded_removed a m h.1 | false ↦ (h.0, guarded_removed a m h.1) ]

guarded_same : (f : ℕ × Block → ℕ × Block) → ((e : ℕ × Block) → (f e).1.guard ≡ e.1.guard) → (m : Blocks) → AreGuarded m → AreGuarded (map f m)
guarded_same f same [] h = tt
guarded_same f same (y ∷ m) h = (omega (arith, same y, h.0), guarded_same f same m h.1)

guarded_freed : (s : State) (a word : ℕ) (o : Option Block) (r : Option ℕ) → AreGuarded s.live → AreGuarded (releases r (takes_back a word o s)).live
guarded_freed s a word None None h = h
guarded_freed s a word None (Some b) h = h
guarded_freed s a word (Some x) r h = out r (is_quarantined x)
  where
    out : (r : Option ℕ) (t : Bool) → AreGuarded (releases r (cond t (record s { live = removed a s.live; quarantined = (a, x) ∷ s.quarantined; frees = free_at a word ∷ s.frees }) (record s { live = removed a s.live }))).live
    out None true = guarded_removed a s.live h
    out None false = guarded_removed a s.live h
    out (Some b) true = guarded_removed a s.live h
    out (Some b) false = guarded_removed a s.live h

-- an entry leaves each live block a guard
pub guarded_changed : (n : ℕ) (s : State) (e : Entry) (c : Call) (r : Reply) → AreGuarded s.live → IsDrawnEvent n s e c r → AreGuarded (changed e c r s).live
guarded_changed n s e (call.Allot asked align) (reply.Given a size) h draws = (omega (arith, ap (λ (o : Option ℕ). unwrap_or o 0) draws.1), h)
guarded_changed n s e (call.GiveBack a stated) reply.PagesFailed h draws = guarded_same (mark a) (λ e. refl) s.live h
guarded_changed n s e (call.GiveBack a stated) reply.Freed h draws = guarded_freed s a e.draws.w0 (at a s.live) e.choices.released h
guarded_changed n s e (call.Fill a runs) reply.Filled h draws = guarded_same (overlay a (expand runs)) (λ e. refl) s.live h
guarded_changed n s e c r h draws = h

pub kept_guarded : {P : Type 0} (meaning : pages.Ghosts P) (p : P) (c : Config) (n : ℕ) (es : List Entry) (k : Store) → IsKept meaning p c n es k → AreGuarded (state (terms_of c (meaning.told p)) es).live
kept_guarded meaning p c n es k h =
    subst (λ (s : State). AreGuarded s.live) (state_same (IsDrawnEntry n) (Allowed (terms_of c (meaning.told p))) start es)
    (legal_keeps step (IsDrawnEntry n) (λ s. AreGuarded s.live) (λ s e g draws. guarded_changed n s e e.call e.reply g draws) start es tt h.drawn)

-- ---- reading
-- a run that is there is that of a block
page_run_of : (live : Blocks) (runs : PageRuns) (a : ℕ) (bytes : List ℕ) → HoldsBlocks live runs → finite.get runs a ≡ Some bytes → (x : Block) × (at a live ≡ Some x) × (x.bytes ≡ bytes)
page_run_of live runs a bytes holds is = by_block (at a live) refl (sym (holds a) ∙ is)
  where
    by_block : (o : Option Block) → at a live ≡ o → option_map (λ (b : Block). b.bytes) (at a live) ≡ Some bytes → (x : Block) × (at a live ≡ Some x) × (x.bytes ≡ bytes)
    by_block None e f = absurd (none-some bytes (sym (ap (option_map (λ (b : Block). b.bytes)) e) ∙ f))
    by_block (Some x) e f = (x, e, same_Some x.bytes bytes (sym (ap (option_map (λ (b : Block). b.bytes)) e) ∙ f))

-- what the pages read is what the blocks have
pub reads_blocks : (c : Config) (s : State) (runs : PageRuns) (a len : ℕ) (w : List ℕ) → IsSound c s → HoldsBlocks s.live runs → Reads runs a len w → (first_trap s.live a len ≡ None) × (w ≡ bytes_read s.live a len)
reads_blocks c s runs a len w sound holds r =
    let x = page_run_of s.live runs r.first r.bytes holds r.is_run in
    let size : length r.bytes ≡ x.0.size = ap length (sym x.2) ∙ (in_space_at c r.first x.0 s.live sound.live x.1).whole in
    let once = λ (k : ℕ). (let o : covered k s.live ≤ 1 = omega (arith, sound.once k) in o) in (
      no_trap s.live a len (λ k l h. ap is_some (byte_there c s.live r.first k x.0 sound.live (once k) x.1 (omega (arith, r.lies.from)) (omega (arith, r.lies.to, size)))),
      r.value ∙ (ap (λ (b : List ℕ). take len (drop (a - r.first) b)) (sym x.2) ∙ sym (bytes_there c s.live r.first a len x.0 sound.live once x.1 r.lies.from (omega (arith, r.lies.to, size)))),
    )

-- where the pages have no such run, no block has the range
pub held_by_none : (c : Config) (s : State) (runs : PageRuns) (q len : ℕ) → IsSound c s → HoldsBlocks s.live runs → 1 ≤ len → (IsHeld runs q len → ⊥) → HeldByNone s.live q len
held_by_none c s runs q len sound holds some none a x e low high =
    none (a, x.bytes, holds a ∙ ap (option_map (λ (b : Block). b.bytes)) e, record { some = some; from = low; to = omega (arith, high, (in_space_at c a x s.live sound.live e).whole) })

-- no two runs meet, as no two blocks do
pub disjoint_blocks : (c : Config) (s : State) (runs : PageRuns) → IsSound c s → HoldsBlocks s.live runs → AreDisjoint runs
disjoint_blocks c s runs sound holds p q b d first second ne =
    let x = page_run_of s.live runs p b holds first in
    let y = page_run_of s.live runs q d holds second in
    let long : length b ≡ x.0.size = ap length (sym x.2) ∙ (in_space_at c p x.0 s.live sound.live x.1).whole in
    let long' : length d ≡ y.0.size = ap length (sym y.2) ∙ (in_space_at c q y.0 s.live sound.live y.1).whole in
    ⊎_elim
    (λ (lt : p < q). ⊎_elim (λ (inside : q < p + length b). absurd (omega (arith, twice p q x.0 y.0 x.1 y.1 ne (omega arith) (omega (arith, inside, long))))) inl (cases_lt q (p + length b)))
    (λ (ge : q ≤ p). ⊎_elim (λ (inside : p < q + length d). absurd (omega (arith, twice q p y.0 x.0 y.1 x.1 (λ e. ne (sym e)) ge (omega (arith, inside, long'))))) inr (cases_lt p (q + length d)))
    (cases_lt p q)
  where
    twice : (a k : ℕ) (x y : Block) → at a s.live ≡ Some x → at k s.live ≡ Some y → (a ≡ k → ⊥) → a ≤ k → k < a + x.size → 1 ≤ 0
    twice a k x y e f ne low high =
        omega (
          arith,
          two_covered a k k x y s.live e f ne (spans_from a x.size x.guard k (omega (arith, low)) (omega (arith, high))) (covers_own c (k, y) (in_space_at c k y s.live sound.live f)) (live_once c s a sound),
          sound.once k,
        )

-- ---- writing
at_overlaid : (q a : ℕ) (w : List ℕ) (m : Blocks) → at q (overlaid_blocks a w m) ≡ option_map (λ (b : Block). (overlay a w (q, b)).1) (at q m)
at_overlaid q a w [] = refl
at_overlaid q a w (y ∷ m) =
    elim (y.0 == q) as (λ t. (y.0 == q) ≡ t → cond t (Some (overlay a w y).1) (at q (overlaid_blocks a w m)) ≡ option_map (λ (b : Block). (overlay a w (q, b)).1) (cond t (Some y.1) (at q m))) [
      | true ↦ λ is. (let e : y.0 ≡ q = eq_same y.0 q is in ap (λ k. Some (overlay a w (k, y.1)).1) e)
      | false ↦ λ is. at_overlaid q a w m
    ] refl

-- what the pages have once it is written is what the blocks have
pub writes_blocks : (c : Config) (s : State) (runs after : PageRuns) (a : ℕ) (w : List ℕ) → IsSound c s → HoldsBlocks s.live runs → Writes runs a (length w) w after → HoldsBlocks (overlaid_blocks a w s.live) after
writes_blocks c s runs after a w sound holds h q =
    ap (λ (r : PageRuns). finite.get r q) h.value
    ∙ (get-insert nat_cmp_total runs h.first (written h.bytes (a - h.first) w) q
    ∙ (ap (λ (t : Bool). cond t (Some (written h.bytes (a - h.first) w)) (finite.get runs q)) (map_test q h.first)
    ∙ (⊎_elim here there (cases_eq h.first q) ∙ sym (ap (option_map (λ (b : Block). b.bytes)) (at_overlaid q a w s.live)))))
  where
    x : (x : Block) × (at h.first s.live ≡ Some x) × (x.bytes ≡ h.bytes)
    x = page_run_of s.live runs h.first h.bytes holds h.is_run

    size : length h.bytes ≡ x.0.size
    size = ap length (sym x.2) ∙ (in_space_at c h.first x.0 s.live sound.live x.1).whole

    here : h.first ≡ q → cond (h.first == q) (Some (written h.bytes (a - h.first) w)) (finite.get runs q) ≡ option_map (λ (b : Block). b.bytes) (option_map (λ (b : Block). (overlay a w (q, b)).1) (at q s.live))
    here e =
        let there : at q s.live ≡ Some x.0 = subst (λ (k : ℕ). at k s.live ≡ Some x.0) e x.1 in
        let back : h.first + (a - h.first) ≡ a = omega (arith, h.lies.from) in
        let value : written h.bytes (a - h.first) w ≡ overlaid a w q x.0.bytes =
        sym (overlaid_written (a - h.first) h.first w h.bytes (omega (arith, h.lies.from, h.lies.to)))
        ∙ (ap (λ k. overlaid k w h.first h.bytes) back ∙ (ap (λ k. overlaid a w k h.bytes) e ∙ ap (overlaid a w q) (sym x.2))) in
        ap (λ (t : Bool). cond t (Some (written h.bytes (a - h.first) w)) (finite.get runs q)) (same_eq h.first q e)
        ∙ (ap Some value ∙ sym (ap (λ (o : Option Block). option_map (λ (b : Block). b.bytes) (option_map (λ (b : Block). (overlay a w (q, b)).1) o)) there))

    apart : (y : Block) → (h.first ≡ q → ⊥) → at q s.live ≡ Some y → (q + length y.bytes ≤ a) ⊎ (a + length w ≤ q)
    apart y ne e =
        let whole = (in_space_at c q y s.live sound.live e).whole in
        ⊎_elim (λ (lt : q < a). ⊎_elim (λ (inside : a < q + length y.bytes). absurd (omega (arith, first_twice inside lt))) inl (cases_lt a (q + length y.bytes)))
        (λ (ge : a ≤ q). ⊎_elim (λ (inside : q < a + length w). absurd (omega (arith, second_twice inside ge))) inr (cases_lt q (a + length w)))
        (cases_lt q a)
      where
        first_twice : a < q + length y.bytes → q < a → 1 ≤ 0
        first_twice inside lt =
            omega (
              arith,
              two_covered h.first q a x.0 y s.live x.1 e ne (spans_from h.first x.0.size x.0.guard a (omega (arith, h.lies.from)) (omega (arith, h.lies.some, h.lies.to, size)))
                  (spans_from q y.size y.guard a (omega arith) (omega (arith, (in_space_at c q y s.live sound.live e).whole))) (live_once c s h.first sound),
              sound.once a,
            )

        second_twice : q < a + length w → a ≤ q → 1 ≤ 0
        second_twice inside ge =
            omega (
              arith,
              two_covered h.first q q x.0 y s.live x.1 e ne (spans_from h.first x.0.size x.0.guard q (omega (arith, h.lies.from)) (omega (arith, h.lies.to, size)))
                  (covers_own c (q, y) (in_space_at c q y s.live sound.live e)) (live_once c s h.first sound),
              sound.once q,
            )

    stays : (o : Option Block) → at q s.live ≡ o → (h.first ≡ q → ⊥) → option_map (λ (b : Block). b.bytes) o ≡ option_map (λ (b : Block). b.bytes) (option_map (λ (b : Block). (overlay a w (q, b)).1) o)
    stays None e ne = refl
    stays (Some y) e ne = ap Some (sym (overlaid_apart a w q y.bytes (apart y ne e)))

    there : (h.first ≡ q → ⊥) → cond (h.first == q) (Some (written h.bytes (a - h.first) w)) (finite.get runs q) ≡ option_map (λ (b : Block). b.bytes) (option_map (λ (b : Block). (overlay a w (q, b)).1) (at q s.live))
    there ne = ap (λ (t : Bool). cond t (Some (written h.bytes (a - h.first) w)) (finite.get runs q)) (other_eq h.first q ne) ∙ (holds q ∙ stays (at q s.live) refl ne)

at_kept : (q a : ℕ) (w : List ℕ) (live quarantined : Option Block) → kept_or (option_map (λ (b : Block). (overlay a w (q, b)).1) live) quarantined ≡ kept_or live quarantined
at_kept q a w None quarantined = refl
at_kept q a w (Some b) quarantined = refl

shows_written : (c : Config) (n : ℕ) (s : State) (k : Store) (a : ℕ) (w : List ℕ) → Shows c n s k → Shows c n (record s { live = overlaid_blocks a w s.live }) k
shows_written c n s k a w h = record {
  blocks = λ q. h.blocks q ∙ sym (ap (λ (o : Option Block). kept_or o (at q s.quarantined)) (at_overlaid q a w s.live) ∙ at_kept q a w (at q s.live) (at q s.quarantined));
  space = λ q. (let same = how_many_same (covers q) (overlay a w) (λ e. refl) s.live in ((λ f. (((h.space q).0 f).0, omega (arith, ((h.space q).0 f).1, same))), (λ o. (h.space q).1 (o.0, omega (arith, o.1, same)))));
  out = omega (arith, h.out, length_same (overlay a w) s.live);
  quarantine = h.quarantine;
  words = h.words;
  owed_is = h.owed_is ∙ sym (how_many_same is_owed (overlay a w) (λ e. refl) s.live);
  quarantined_are = h.quarantined_are;
  indices = h.indices;
  new = h.new;
}

-- ---- entries
module _ {P : Type 0} (meaning : pages.Ghosts P) (p : P) (c : Config) (n : ℕ) (es : List Entry) (k : Store) (who : Who) (a : ℕ) where
  -- what reading found
  pub kept_read : (len : ℕ) (found : Fetched) → IsRange a len → IsKept meaning p c n es k → IsFetchReply a len (fetch_reply found) → (IsTrue (meaning.told p) → IsRead (state (terms_of c (meaning.told p)) es).live a len found)
      → IsKept meaning p c n (es ++ entry_of who (call.Fetch a len) (fetch_reply found) no_choices no_words (meaning.faults p) (meaning.faults p) ∷ []) k
  kept_read len (fetched.Bytes runs) asks h count is =
      kept_plain meaning p p c n es k (entry_of who (call.Fetch a len) (reply.Bytes runs) no_choices no_words (meaning.faults p) (meaning.faults p)) h (all_same meaning p) refl refl refl (asks, (count, is, refl), refl, refl)
  kept_read len (fetched.Trap trap) asks h within is =
      kept_plain meaning p p c n es k (entry_of who (call.Fetch a len) (reply.Trap trap) no_choices no_words (meaning.faults p) (meaning.faults p)) h (all_same meaning p) refl refl refl (asks, (is, refl), refl, refl)

  -- nothing was written
  kept_trapped : (now : P) (found : List (ℕ × ℕ)) (trap : ℕ) → IsRange a (length (expand found)) → IsKept meaning p c n es k → AreSame meaning p now
      → (IsTrue (meaning.told p) → first_trap (state (terms_of c (meaning.told p)) es).live a (length (expand found)) ≡ Some trap)
      → IsKept meaning now c n (es ++ entry_of who (call.Fill a found) (reply.Trap trap) no_choices no_words (meaning.faults p) (meaning.faults p) ∷ []) k
  kept_trapped now found trap asks h same is =
      kept_plain meaning p now c n es k (entry_of who (call.Fill a found) (reply.Trap trap) no_choices no_words (meaning.faults p) (meaning.faults p)) h same refl refl refl (asks, (is, refl), refl, refl)

  kept_filled : (now : P) (found : List (ℕ × ℕ)) → IsRange a (length (expand found)) → IsKept meaning p c n es k → SameButPageRuns meaning p now
      → (IsTrue (meaning.told p) → Writes (meaning.runs p) a (length (expand found)) (expand found) (meaning.runs now))
      → IsKept meaning now c n (es ++ entry_of who (call.Fill a found) reply.Filled no_choices no_words (meaning.faults p) (meaning.faults p) ∷ []) k
  kept_filled now found asks h same writes =
      let t = terms_of c (meaning.told p) in
      let s : State = state t es in
      let len : ℕ = length (expand found) in
      let e = entry_of who (call.Fill a found) reply.Filled no_choices no_words (meaning.faults p) (meaning.faults p) in
      let sound = kept_sound meaning p c n es k h in
      let reads = λ (tells : IsTrue (meaning.told p)). (let w = writes tells in (let r : Reads (meaning.runs p) a len (take len (drop (a - w.first) w.bytes)) = record { first = w.first; bytes = w.bytes; is_run = w.is_run; lies = w.lies; value = refl } in r)) in
      let allowed : Allowed t s e = record {
        draws = none_drawn;
        asks = asks;
        follows = h.count;
        later = omega arith;
        allows = ((λ tells. (reads_blocks c s (meaning.runs p) a len _ sound (h.held tells) (reads tells)).0), refl);
      } in
      kept_push meaning p now c n es k k e h (record { told = same.told; owner = same.owner }) (
        allowed,
        refl,
        (λ tells. writes_blocks c s (meaning.runs p) (meaning.runs now) a (expand found) sound (h.held tells) (writes tells)),
        shows_step c n (record s { live = overlaid_blocks a (expand found) s.live }) k (0 + s.words) (meaning.faults p) (shows_written c n s k a (expand found) h.shows) (omega arith),
      )
      same.count

  -- what writing left
  pub kept_written : (now : P) (found : List (ℕ × ℕ)) (trap : Option ℕ) → IsRange a (length (expand found)) → IsKept meaning p c n es k → SameButPageRuns meaning p now
      → (IsTrue (meaning.told p) → trap ≡ first_trap (state (terms_of c (meaning.told p)) es).live a (length (expand found)))
      → (trap ≡ None → IsTrue (meaning.told p) → Writes (meaning.runs p) a (length (expand found)) (expand found) (meaning.runs now)) → (IsSome trap → meaning.runs now ≡ meaning.runs p)
      → IsKept meaning now c n (es ++ entry_of who (call.Fill a found) (fill_reply trap) no_choices no_words (meaning.faults p) (meaning.faults p) ∷ []) k
  kept_written now found None asks h same first written unchanged = kept_filled now found asks h same (written refl)
  kept_written now found (Some trap) asks h same first written unchanged =
      kept_trapped now found trap asks h (record { origin = record { told = same.told; owner = same.owner }; runs = λ tells. unchanged refl; faults = same.count }) (λ tells. sym (first tells))

-- the replies that a fill may have
pub fill_replies : (a len : ℕ) (trap : Option ℕ) → IfSome trap (IsWithin a len) → IsFillReply a len (fill_reply trap)
fill_replies a len None within = tt
fill_replies a len (Some q) within = within
