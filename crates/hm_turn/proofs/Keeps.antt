-- Each step keeps the rule.
use Rattle.std.proofs.Common.{◌≡◌, ◌≢◌, ℕ, ◌+◌, ◌%◌, ◌^◌, ◌<◌, le_refl, Bool, true, false, cond, eqb, eq-eqb, ne_eqb, List, [], ◌∷◌, ◌++◌, length, length-append, set, get_or, sym, refl, ap, ◌∙◌, subst, inl, inr, ⊎_elim, arith, Option, None, Some}
use Rattle.std.proofs.lemmas.Bool.{both_ways, false_from_ne_true}
use Rattle.std.proofs.lemmas.Option.{same_Some}
use mathlib.Core.Option.{Option as Place, none}
use mathlib.Core.Logic.{dite}
use native.Mathlib.Decide.{ℕ_discrete}
use lib.ListN.{get_elem?}
use lib.Seq.{set-get_or}
use prog.Atomic.{either}
use lib.Dec.{ltb}
use Rattle.atomic_table.specs.Table.{State, Me, Act, step, keeps, takes as picks, gives, stepped, carried_after, Valid, Allows, opening}
use Rattle.atomic_table.proofs.Lists.{at_set, set_else, set_again}
use Rattle.hm_model.specs.declared.entry.Entry.{Entry}
use Rattle.hm_turn.specs.Histories.{StartsWith}
use Rattle.hm_turn.proofs.Histories.{calls_by, calls_by_begun, starts_itself, starts_longer}
use Rattle.hm_turn.specs.declared.view.View.{View}
use Rattle.hm_turn.specs.Callers.{is_among, ended_of}
use Rattle.hm_turn.specs.Rule.{At, Fits, AreKnown, AreQueued, IsHome, IsOut, Orderly}
use Rattle.hm_turn.specs.Views.{founder, drawing, noting, outrun, last_number, holding, knowing, resting}
use Rattle.hm_turn.specs.Sound.{IsSound, IsIdle, MayAsk, IsWaiting}
use Rattle.hm_turn.specs.Steps.{Wins, drawn, awaited, observed, asked, counted, added, freed, informed}
use Rattle.hm_turn.proofs.Views.{at_one, set_at, one_at, calls_by-other, rebuilt, backwards, forwards}
use Rattle.hm_turn.proofs.Queues.{no_number, queue_kept, queue_drawn, queue_served}

module _ {T : Type 0} (entries : T → List Entry) (origin_of : T → List ℕ) (origin : List ℕ) where
  abbrev St : Type 0
  St = State (Option T) View

  abbrev M : Type 0
  M = Me (Option T) View

  abbrev Rule : St → Type 0
  Rule = Orderly entries origin_of origin

  pub opens : (x : T) → entries x ≡ [] → origin_of x ≡ origin → Rule (opening (0 ∷ 0 ∷ 0 ∷ []) (Some x ∷ []) (founder origin))
  opens x empty from = record {
    history = [];
    ticket = 0;
    serving = 0;
    words = refl;
    queue = record {
      in_order = le_refl 0;
      many = refl;
      between = λ j v t e h. absurd (no_number v.ticket t (ap (λ (u : View). u.ticket) (sym (at_one (founder origin) v j e).1)) h);
      differ = λ j k v w t p q _ _. (at_one (founder origin) v j p).0 ∙ sym (at_one (founder origin) w k q).0;
      noted = λ j v n e h. absurd (no_number v.note n (ap (λ (u : View). u.note) (sym (at_one (founder origin) v j e).1)) h);
    };
    home_or_out = inl record { value = x; homes = refl; entries_are = empty; origin_is = from; none_holds = λ j v e. ap (λ (u : View). u.holds) (sym (at_one (founder origin) v j e).1) };
    each = λ j v e lives. subst (Fits origin []) (at_one (founder origin) v j e).1 record { origin_is = refl; begins = ([], refl); own_seen = refl; own_all = refl };
    callers = record {
      root = 0;
      chief = founder origin;
      outs = [];
      seats = record {
        at_root = refl;
        root_live = refl;
        root_zero = refl;
        counted = refl;
        distinct = tt;
        apart = λ j k v w p q _ _ _. (at_one (founder origin) v j p).0 ∙ sym (at_one (founder origin) w k q).0;
        live = λ j v e _. inl (ap (λ (u : View). u.caller) (sym (at_one (founder origin) v j e).1));
        present = λ c h. cc;
      };
      calls = record {
        gone = λ j v e _. refl;
        out_used = λ c h. h;
        used_are = λ c h. inl h;
        ended_used = λ c calls h. cc;
        ended_are = λ c calls h. cc;
        strangers = λ c n h. refl;
      };
    };
  }

  -- what the seat id knows of the rest: the callers after a change of its view that keeps its books
  changed : (s : St) (r : Rule s) (id : ℕ) (v w : View) (history' : List Entry) → At s.views id v → v.spent ≡ false → w.spent ≡ false → w.caller ≡ v.caller → w.used ≡ v.used → w.out ≡ v.out → w.ended ≡ v.ended
      → ((c : ℕ) (calls : List Entry) → ended_of c r.callers.chief.ended ≡ Some calls → calls_by c history' ≡ calls)
      → ((c : ℕ) (calls : List Entry) → ended_of c v.ended ≡ Some calls → r.callers.chief ≡ v → calls_by c w.seen ≡ calls)
      → ((c : ℕ) → c ≢ 0 → is_among c r.callers.chief.used ≡ false → calls_by c history' ≡ [])
      → AreKnown history' (set s.views id w)
  changed s r id v w history' at lives livew caller used out ended over own strange = let k = r.callers in dite (ℕ_discrete k.root id)
      (λ is. let same : k.chief ≡ v = one_at s.views id k.chief v (ap (get_elem? s.views) (sym is) ∙ k.seats.at_root) at in
      rebuilt r.history history' s.views (set s.views id w) k w (ap (get_elem? (set s.views id w)) is ∙ set_at s.views id v w at) livew (caller ∙ (ap (λ (x : View). x.caller) (sym same) ∙ k.seats.root_zero))
      (used ∙ ap (λ (x : View). x.used) (sym same)) (out ∙ ap (λ (x : View). x.out) (sym same)) (ended ∙ ap (λ (x : View). x.ended) (sym same))
      (λ c calls h. (own c calls (ap (λ (x : View). ended_of c x.ended) (sym same) ∙ h) same, over c calls h)) strange (backwards s.views id v w at lives (sym caller)) (forwards s.views id v w at livew caller))
      (λ isnt. rebuilt r.history history' s.views (set s.views id w) k k.chief (set_else s.views id k.root w isnt ∙ k.seats.at_root) k.seats.root_live k.seats.root_zero refl refl refl
      (λ c calls h. ((k.calls.ended_are c calls h).0, over c calls h)) strange (backwards s.views id v w at lives (sym caller)) (forwards s.views id v w at livew caller))

  each_stays : (history : List Entry) (views : List View) (id : ℕ) (w : View) → Fits origin history w → ((j : ℕ) (u : View) → j ≢ id → At views j u → u.spent ≡ false → Fits origin history u)
      → (j : ℕ) (u : View) → At (set views id w) j u → u.spent ≡ false → Fits origin history u
  each_stays history views id w mine others j u p lu = ⊎_elim (λ (t : (j ≡ id) × (w ≡ u)). subst (Fits origin history) t.1 mine) (λ (t : (j ≢ id) × At views j u). others j u t.0 t.1 lu) (at_set views id j w u p)

  -- a state by its words and its one place
  abbrev in_parts : List ℕ → List (Place (Option T)) → List View → St
  in_parts ws hs vs = record { words = ws; homes = hs; views = vs }

  -- as a view was, but for its ticket, its note and how often it was outrun
  record Alike (v w : View) : Type 0 where
    caller : w.caller ≡ v.caller
    origin_is : w.origin ≡ v.origin
    seen : w.seen ≡ v.seen
    mine : w.mine ≡ v.mine
    used : w.used ≡ v.used
    out : w.out ≡ v.out
    ended : w.ended ≡ v.ended
    spent : w.spent ≡ v.spent
    holds : w.holds ≡ v.holds

  abbrev itself : (v : View) → Alike v v
  itself v = record { caller = refl; origin_is = refl; seen = refl; mine = refl; used = refl; out = refl; ended = refl; spent = refl; holds = refl }

  abbrev drawing_alike : (v : View) (t : ℕ) → Alike v (drawing v t)
  drawing_alike v t = record { caller = refl; origin_is = refl; seen = refl; mine = refl; used = refl; out = refl; ended = refl; spent = refl; holds = refl }

  abbrev noting_alike : (v : View) (n : ℕ) → Alike v (noting v n)
  noting_alike v n = record { caller = refl; origin_is = refl; seen = refl; mine = refl; used = refl; out = refl; ended = refl; spent = refl; holds = refl }

  abbrev outrun_alike : (v : View) → Alike v (outrun v)
  outrun_alike v = record { caller = refl; origin_is = refl; seen = refl; mine = refl; used = refl; out = refl; ended = refl; spent = refl; holds = refl }

  fits_alike : (history : List Entry) (v w : View) → Alike v w → Fits origin history v → Fits origin history w
  fits_alike history v w a f = record {
    origin_is = a.origin_is ∙ f.origin_is;
    begins = subst (StartsWith history) (sym a.seen) f.begins;
    own_seen = ap (λ (c : ℕ). calls_by c w.seen) a.caller ∙ (ap (calls_by v.caller) a.seen ∙ (f.own_seen ∙ sym a.mine));
    own_all = ap (λ (c : ℕ). calls_by c history) a.caller ∙ (f.own_all ∙ sym a.mine);
  }

  -- a step of a seat that does not hold the turn, which leaves the number served
  waits_on : (s : St) (r : Rule s) (id : ℕ) (v w : View) (ticket' : ℕ) → At s.views id v → v.spent ≡ false → v.holds ≡ false → Alike v w → AreQueued ticket' r.serving (set s.views id w)
      → Rule (in_parts (ticket' ∷ r.serving ∷ length r.history ∷ []) s.homes (set s.views id w))
  waits_on s r id v w ticket' at lives rests a queue = record {
    history = r.history;
    ticket = ticket';
    serving = r.serving;
    words = refl;
    queue = queue;
    home_or_out = ⊎_elim
        (λ (h : IsHome entries origin_of origin r.history s). inl record {
          value = h.value;
          homes = h.homes;
          entries_are = h.entries_are;
          origin_is = h.origin_is;
          none_holds = λ j u p. ⊎_elim (λ (t : (j ≡ id) × (w ≡ u)). ap (λ (z : View). z.holds) (sym t.1) ∙ (a.holds ∙ rests)) (λ (t : (j ≢ id) × At s.views j u). h.none_holds j u t.1) (at_set s.views id j w u p);
        })
        (λ (o : IsOut entries origin_of r.serving r.history s).
        let other : o.holder ≢ id = λ e. both_ways v.holds rests (ap (λ (x : View). x.holds) (one_at s.views id v o.view at (ap (get_elem? s.views) (sym e) ∙ o.at_holder)) ∙ o.holds) in inr record {
          holder = o.holder;
          view = o.view;
          homes = o.homes;
          at_holder = set_else s.views id o.holder w other ∙ o.at_holder;
          holds = o.holds;
          served = o.served;
          holder_live = o.holder_live;
          knows = o.knows;
          only = λ j u p held. ⊎_elim (λ (t : (j ≡ id) × (w ≡ u)). absurd (both_ways u.holds (ap (λ (x : View). x.holds) (sym t.1) ∙ (a.holds ∙ rests)) held)) (λ (t : (j ≢ id) × At s.views j u). o.only j u t.1 held) (at_set s.views id j w u p);
        })
        r.home_or_out;
    each = each_stays r.history s.views id w (fits_alike r.history v w a (r.each id v at lives)) (λ j u _ p lu. r.each j u p lu);
    callers = changed s r id v w r.history at lives (a.spent ∙ lives) a.caller a.used a.out a.ended (λ c calls e. (r.callers.calls.ended_are c calls e).1)
        (λ c calls e same. ap (calls_by c) a.seen ∙ (ap (λ (x : View). calls_by c x.seen) (sym same) ∙ (r.callers.calls.ended_are c calls (ap (λ (x : View). ended_of c x.ended) same ∙ e)).0)) r.callers.calls.strangers;
  }

  -- the seat whose ticket is served gets the turn, and takes the value
  gets : (s : St) (r : Rule s) (h : IsHome entries origin_of origin r.history s) (id : ℕ) (v b : View) (ticket' : ℕ) → At s.views id v → v.spent ≡ false → Alike v b → b.ticket ≡ Some r.serving
      → AreQueued ticket' r.serving (set s.views id (holding b (entries h.value)))
      → Rule (in_parts (ticket' ∷ r.serving ∷ length r.history ∷ []) (none ∷ []) (set s.views id (holding b (entries h.value))))
  gets s r h id v b ticket' at lives a served queue = let w : View = holding b (entries h.value) in let fits = fits_alike r.history v b a (r.each id v at lives) in
      let there = ap (calls_by b.caller) h.entries_are ∙ fits.own_all in record {
        history = r.history;
        ticket = ticket';
        serving = r.serving;
        words = refl;
        queue = queue;
        home_or_out = inr record {
          holder = id;
          view = w;
          homes = refl;
          at_holder = set_at s.views id v w at;
          holds = refl;
          served = served;
          holder_live = a.spent ∙ lives;
          knows = h.entries_are;
          only = λ j u p held. ⊎_elim (λ (t : (j ≡ id) × (w ≡ u)). t.0) (λ (t : (j ≢ id) × At s.views j u). absurd (both_ways u.holds (h.none_holds j u t.1) held)) (at_set s.views id j w u p);
        };
        each = each_stays r.history s.views id w record { origin_is = fits.origin_is; begins = subst (λ (x : List Entry). StartsWith r.history x) (sym h.entries_are) (starts_itself r.history); own_seen = there; own_all = fits.own_all } (λ j u _ p lu. r.each j u p lu);
        callers = changed s r id v w r.history at lives (a.spent ∙ lives) a.caller a.used a.out a.ended (λ c calls e. (r.callers.calls.ended_are c calls e).1)
            (λ c calls e same. ap (calls_by c) h.entries_are ∙ (r.callers.calls.ended_are c calls (ap (λ (x : View). ended_of c x.ended) same ∙ e)).1) r.callers.calls.strangers;
      }

  -- what that seat is told
  got : (s : St) (r : Rule s) (h : IsHome entries origin_of origin r.history s) (id : ℕ) (v b : View) → At s.views id v → v.spent ≡ false → Alike v b
      → Wins entries origin_of b (holding b (entries h.value), (0, Some h.value) ∷ [])
  got s r h id v b at lives a = let fits = fits_alike r.history v b a (r.each id v at lives) in record {
    value = h.value;
    has = refl;
    view_is = refl;
    begins = subst (λ (x : List Entry). StartsWith x b.seen) (sym h.entries_are) fits.begins;
    own = ap (calls_by b.caller) h.entries_are ∙ fits.own_all;
    origin_is = h.origin_is ∙ sym fits.origin_is;
  }

  -- what a step of the seat id on the word i, with no slot, has to find in a state
  abbrev Lets : (List ℕ → ℕ) → ℕ → ℕ → View → (ℕ → M → Type 0) → St → Type 0
  Lets f i id v then s = (w : View) × (a : Act (Option T)) × Valid s.homes [] a × Rule (stepped s i (f s.words) id [] w a) × then (get_or s.words i 0) (w, carried_after [] a)

  -- the next number to draw after a draw of old
  abbrev drew : ℕ → List ℕ → ℕ
  drew old ws = either (eqb (get_or ws 0 0) old) (old + 1) (get_or ws 0 0)

  draws_at : (s : St) (r : Rule s) (slots id old : ℕ) (v : View) → At s.views id v → v.spent ≡ false → v.holds ≡ false → v.ticket ≡ None → Dec (r.ticket ≡ old)
      → Lets (drew old) 0 id v (drawn (step slots 0 old (old + 1) none) (v, [])) (in_parts (r.ticket ∷ r.serving ∷ length r.history ∷ []) s.homes s.views)
  draws_at s r slots id old v at lives rests no_ticket (yes hit) = let w : View = drawing v old in (
    w,
    keeps,
    tt,
    rw (eq-eqb r.ticket old hit) (waits_on s r id v w (old + 1) at lives rests (drawing_alike v old)
        (subst (λ (t : ℕ). AreQueued (t + 1) r.serving (set s.views id w)) hit (queue_drawn r.ticket r.serving s.views id v w r.queue at no_ticket (ap Some (sym hit)) refl))),
    ((λ _. refl), λ n. absurd (n hit)),
  )
  draws_at s r slots id old v at lives rests no_ticket (no miss) = (
    v,
    keeps,
    tt,
    rw (ne_eqb r.ticket old miss) (subst (λ (z : List ℕ × List View). Rule (in_parts z.0 s.homes z.1)) (λ i. (r.words i, sym (set_again s.views id v at) i)) r),
    ((λ e. absurd (miss e)), λ _. refl),
  )

  pub draws : (slots id old : ℕ) (v : View) → v.spent ≡ false → v.holds ≡ false → v.ticket ≡ None
      → Allows Rule slots id (v, []) 0 (λ n. either (eqb n old) (old + 1) n) (drawn (step slots 0 old (old + 1) none) (v, []))
  draws slots id old v lives rests no_ticket s r _ at _ = subst (λ (ws : List ℕ). Lets (drew old) 0 id v (drawn (step slots 0 old (old + 1) none) (v, [])) (in_parts ws s.homes s.views)) (sym r.words)
      (draws_at s r slots id old v at lives rests no_ticket (ℕ_discrete r.ticket old))

  -- the word served, which a load leaves
  abbrev served_in : List ℕ → ℕ
  served_in ws = get_or ws 1 0

  awaits_at : (s : St) (r : Rule s) (slots id t : ℕ) (v : View) → At s.views id v → v.spent ≡ false → v.holds ≡ false → v.ticket ≡ Some t → Dec (t ≡ r.serving)
      → Lets served_in 1 id v (awaited entries origin_of (step slots 1 0 0 none) (v, [])) (in_parts (r.ticket ∷ r.serving ∷ length r.history ∷ []) s.homes s.views)
  awaits_at s r slots id t v at lives rests mine (yes hit) = let served = mine ∙ ap Some hit in ⊎_elim
      (λ (h : IsHome entries origin_of origin r.history s). let w : View = holding v (entries h.value) in
      subst (λ (hs : List (Place (Option T))). Lets served_in 1 id v (awaited entries origin_of (step slots 1 0 0 none) (v, [])) (in_parts (r.ticket ∷ r.serving ∷ length r.history ∷ []) hs s.views)) (sym h.homes) (
        w,
        picks 0 (Some h.value),
        refl,
        gets s r h id v v r.ticket at lives (itself v) served (queue_kept r.ticket r.serving s.views id v w r.queue at refl (λ n e. cc)),
        ((λ _. got s r h id v v at lives (itself v)), λ n. absurd (n served)),
      ))
      (λ (o : IsOut entries origin_of r.serving r.history s). let e = r.queue.differ o.holder id o.view v r.serving o.at_holder at o.served served in
      absurd (both_ways v.holds rests (ap (λ (x : View). x.holds) (one_at s.views id v o.view at (ap (get_elem? s.views) (sym e) ∙ o.at_holder)) ∙ o.holds)))
      r.home_or_out
  awaits_at s r slots id t v at lives rests mine (no miss) = let w : View = noting v r.serving in (
    w,
    keeps,
    tt,
    waits_on s r id v w r.ticket at lives rests (noting_alike v r.serving) (queue_kept r.ticket r.serving s.views id v w r.queue at refl (λ n e. let q = same_Some r.serving n e in omega arith)),
    ((λ e. absurd (miss (same_Some t r.serving (sym mine ∙ e)))), λ _. refl),
  )

  pub awaits : (slots id t : ℕ) (v : View) → v.spent ≡ false → v.holds ≡ false → v.ticket ≡ Some t → Allows Rule slots id (v, []) 1 (λ n. n) (awaited entries origin_of (step slots 1 0 0 none) (v, []))
  awaits slots id t v lives rests mine s r _ at _ = subst (λ (ws : List ℕ). Lets served_in 1 id v (awaited entries origin_of (step slots 1 0 0 none) (v, [])) (in_parts ws s.homes s.views)) (sym r.words)
      (awaits_at s r slots id t v at lives rests mine (ℕ_discrete t r.serving))

  observes_at : (s : St) (r : Rule s) (id : ℕ) (v : View) → At s.views id v → v.spent ≡ false → v.holds ≡ false → (fits : Bool)
      → Lets served_in 1 id v (λ n after. after ≡ (cond fits (noting v n) (outrun v), [])) (in_parts (r.ticket ∷ r.serving ∷ length r.history ∷ []) s.homes s.views)
  observes_at s r id v at lives rests true = let w : View = noting v r.serving in (
    w,
    keeps,
    tt,
    waits_on s r id v w r.ticket at lives rests (noting_alike v r.serving) (queue_kept r.ticket r.serving s.views id v w r.queue at refl (λ n e. let q = same_Some r.serving n e in omega arith)),
    refl,
  )
  observes_at s r id v at lives rests false = let w : View = outrun v in (
    w,
    keeps,
    tt,
    waits_on s r id v w r.ticket at lives rests (outrun_alike v) (queue_kept r.ticket r.serving s.views id v w r.queue at refl (λ n e. cc)),
    refl,
  )

  pub observes : (slots id : ℕ) (v : View) → v.spent ≡ false → v.holds ≡ false → Allows Rule slots id (v, []) 1 (λ n. n) (observed (step slots 1 0 0 none) (v, []))
  observes slots id v lives rests s r _ at _ = subst (λ (ws : List ℕ). Lets served_in 1 id v (observed (step slots 1 0 0 none) (v, [])) (in_parts ws s.homes s.views)) (sym r.words)
      (observes_at s r id v at lives rests (ltb r.serving last_number))

  asks_at : (s : St) (r : Rule s) (slots id old : ℕ) (v : View) → At s.views id v → v.spent ≡ false → v.holds ≡ false → v.ticket ≡ None → v.note ≡ Some old → Dec (r.ticket ≡ old)
      → Lets (drew old) 0 id v (asked entries origin_of (step slots 0 old (old + 1) none) (v, [])) (in_parts (r.ticket ∷ r.serving ∷ length r.history ∷ []) s.homes s.views)
  asks_at s r slots id old v at lives rests no_ticket note (yes hit) = let below = r.queue.noted id v old at note in let order = r.queue.in_order in let served : old ≡ r.serving = omega arith in ⊎_elim
      (λ (h : IsHome entries origin_of origin r.history s). let b : View = drawing v old in let w : View = holding b (entries h.value) in
      subst (λ (hs : List (Place (Option T))). Lets (drew old) 0 id v (asked entries origin_of (step slots 0 old (old + 1) none) (v, [])) (in_parts (r.ticket ∷ r.serving ∷ length r.history ∷ []) hs s.views)) (sym h.homes) (
        w,
        picks 0 (Some h.value),
        refl,
        rw (eq-eqb r.ticket old hit) (gets s r h id v b (old + 1) at lives (drawing_alike v old) (ap Some served)
            (subst (λ (t : ℕ). AreQueued (t + 1) r.serving (set s.views id w)) hit (queue_drawn r.ticket r.serving s.views id v w r.queue at no_ticket (ap Some (sym hit)) refl))),
        ((λ _. got s r h id v b at lives (drawing_alike v old)), λ n. absurd (n hit)),
      ))
      (λ (o : IsOut entries origin_of r.serving r.history s). let x = r.queue.between o.holder o.view r.serving o.at_holder o.served in absurd (omega arith))
      r.home_or_out
  asks_at s r slots id old v at lives rests no_ticket note (no miss) = let below = r.queue.noted id v old at note in let order = r.queue.in_order in let w : View = outrun v in (
    w,
    keeps,
    tt,
    rw (ne_eqb r.ticket old miss) (waits_on s r id v w r.ticket at lives rests (outrun_alike v) (queue_kept r.ticket r.serving s.views id v w r.queue at refl (λ n e. cc))),
    ((λ e. absurd (miss e)), λ n. (omega arith, refl)),
  )

  pub asks : (slots id old : ℕ) (v : View) → v.spent ≡ false → v.holds ≡ false → v.ticket ≡ None → v.note ≡ Some old
      → Allows Rule slots id (v, []) 0 (λ n. either (eqb n old) (old + 1) n) (asked entries origin_of (step slots 0 old (old + 1) none) (v, []))
  asks slots id old v lives rests no_ticket note s r _ at _ = subst (λ (ws : List ℕ). Lets (drew old) 0 id v (asked entries origin_of (step slots 0 old (old + 1) none) (v, [])) (in_parts ws s.homes s.views)) (sym r.words)
      (asks_at s r slots id old v at lives rests no_ticket note (ℕ_discrete r.ticket old))

  -- the view of the seat that holds the turn is the rule's holder
  holder_is : (s : St) (r : Rule s) (o : IsOut entries origin_of r.serving r.history s) (id : ℕ) (v : View) → At s.views id v → v.holds ≡ true → o.view ≡ v
  holder_is s r o id v at held = one_at s.views id o.view v (ap (get_elem? s.views) (o.only id v at held) ∙ o.at_holder) at

  pub counts : (slots id : ℕ) (v : View) (c : List (ℕ × Option T)) → v.holds ≡ true → Allows Rule slots id (v, c) 2 (λ n. n) (counted (step slots 2 0 0 none) (v, c))
  counts slots id v c held s r _ at _ = (
    v,
    keeps,
    tt,
    subst (λ (z : List ℕ × List View). Rule (in_parts z.0 s.homes z.1)) (λ i. (sym (set-get_or s.words 2 0) i, sym (set_again s.views id v at) i)) r,
    (
      ⊎_elim (λ (h : IsHome entries origin_of origin r.history s). absurd (both_ways v.holds (h.none_holds id v at) held))
          (λ (o : IsOut entries origin_of r.serving r.history s). ap (λ (ws : List ℕ). get_or ws 2 0) r.words ∙ ap (λ (l : List Entry). length l) (sym o.knows ∙ ap (λ (u : View). u.seen) (holder_is s r o id v at held))) r.home_or_out,
      refl,
    ),
  )

  abbrev Grows : ℕ → ℕ → View → List Entry → List (ℕ × Option T) → St → Type 0
  Grows slots id v xs cs s = (w : View) × (a : Act (Option T)) × Valid s.homes cs a × Rule (stepped s 2 ((get_or s.words 2 0 + 1) % 2 ^ 64) id cs w a)
      × added xs (step slots 2 1 0 none) (v, cs) (get_or s.words 2 0) (w, carried_after cs a)

  grows : (s : St) (r : Rule s) (o : IsOut entries origin_of r.serving r.history s) (slots id : ℕ) (v : View) (xs : List Entry) (cs : List (ℕ × Option T)) (e : Entry) → At s.views id v → v.spent ≡ false → v.holds ≡ true
      → xs ≡ v.seen ++ e ∷ [] → e.who.caller ≡ v.caller → length xs < 2 ^ 64 → Grows slots id v xs cs (in_parts (r.ticket ∷ r.serving ∷ length r.history ∷ []) (none ∷ []) s.views)
  grows s r o slots id v xs cs e at lives held grown own room = let w : View = knowing v xs in let k = r.callers in let fits = r.each id v at lives in
      let same = holder_is s r o id v at held in let history' : List Entry = r.history ++ e ∷ [] in
      let longer : xs ≡ history' = grown ∙ ap (λ (l : List Entry). l ++ e ∷ []) (ap (λ (u : View). u.seen) (sym same) ∙ o.knows) in
      let number : (length r.history + 1) % 2 ^ 64 ≡ length history' = omega (arith, length-append r.history (e ∷ []), ap (λ (l : List Entry). length l) longer, room) in
      let over : (c : ℕ) (calls : List Entry) → ended_of c k.chief.ended ≡ Some calls → calls_by c history' ≡ calls = λ c calls h. calls_by-other c r.history e (λ z. let q : Some calls ≡ None = sym h ∙ (ap (λ (m : ℕ). ended_of m k.chief.ended) (sym z ∙ own) ∙ k.calls.gone id v at lives) in cc) ∙ (k.calls.ended_are c calls h).1 in (
        w,
        keeps,
        tt,
        record {
          history = history';
          ticket = r.ticket;
          serving = r.serving;
          words = ap (λ (n : ℕ). r.ticket ∷ r.serving ∷ n ∷ []) number;
          queue = queue_kept r.ticket r.serving s.views id v w r.queue at refl (λ n q. r.queue.noted id v n at q);
          home_or_out = inr record {
            holder = id;
            view = w;
            homes = refl;
            at_holder = set_at s.views id v w at;
            holds = held;
            served = ap (λ (u : View). u.ticket) (sym same) ∙ o.served;
            holder_live = lives;
            knows = longer;
            only = λ j u p holds. ⊎_elim (λ (t : (j ≡ id) × (w ≡ u)). t.0) (λ (t : (j ≢ id) × At s.views j u). o.only j u t.1 holds ∙ sym (o.only id v at held)) (at_set s.views id j w u p);
          };
          each = each_stays history' s.views id w record { origin_is = fits.origin_is; begins = subst (λ (z : List Entry). StartsWith history' z) (sym longer) (starts_itself history'); own_seen = refl; own_all = ap (calls_by v.caller) (sym longer) }
              (λ j u n p lu. let f = r.each j u p lu in record { origin_is = f.origin_is; begins = starts_longer r.history u.seen (e ∷ []) f.begins; own_seen = f.own_seen; own_all = calls_by-other u.caller r.history e (λ z. n (k.seats.apart j id u v p at lu lives (sym z ∙ own))) ∙ f.own_all });
          callers = changed s r id v w history' at lives lives refl refl refl refl over (λ c calls h same'. ap (calls_by c) longer ∙ over c calls (ap (λ (u : View). ended_of c u.ended) same' ∙ h))
              (λ c n h. calls_by-other c r.history e (λ z. ⊎_elim (λ (p : v.caller ≡ 0). n ((sym z ∙ own) ∙ p))
              (λ (p : is_among v.caller k.outs ≡ true). both_ways (is_among c k.chief.used) h (ap (λ (m : ℕ). is_among m k.chief.used) (sym z ∙ own) ∙ k.calls.out_used v.caller p)) (k.seats.live id v at lives)) ∙ k.calls.strangers c n h);
        },
        refl,
      )

  pub adds : (slots id : ℕ) (v : View) (xs : List Entry) (cs : List (ℕ × Option T)) (e : Entry) → v.spent ≡ false → v.holds ≡ true → xs ≡ v.seen ++ e ∷ [] → e.who.caller ≡ v.caller → length xs < 2 ^ 64
      → Allows Rule slots id (v, cs) 2 (λ n. (n + 1) % 2 ^ 64) (added xs (step slots 2 1 0 none) (v, cs))
  adds slots id v xs cs e lives held grown own room s r _ at _ = ⊎_elim (λ (h : IsHome entries origin_of origin r.history s). absurd (both_ways v.holds (h.none_holds id v at) held))
      (λ (o : IsOut entries origin_of r.serving r.history s). subst (λ (z : List ℕ × List (Place (Option T))). Grows slots id v xs cs (in_parts z.0 z.1 s.views)) (λ i. (sym r.words i, sym o.homes i)) (grows s r o slots id v xs cs e at lives held grown own room)) r.home_or_out

  abbrev Rests : ℕ → ℕ → ℕ → View → T → St → Type 0
  Rests slots id next v x s = (w : View) × (a : Act (Option T)) × Valid s.homes ((0, Some x) ∷ []) a × Rule (stepped s 1 next id ((0, Some x) ∷ []) w a)
      × freed (step slots 1 next 0 none) (v, (0, Some x) ∷ []) next (w, carried_after ((0, Some x) ∷ []) a)

  rests : (s : St) (r : Rule s) (o : IsOut entries origin_of r.serving r.history s) (slots id t : ℕ) (v : View) (x : T) → At s.views id v → v.spent ≡ false → v.holds ≡ true → v.ticket ≡ Some t
      → entries x ≡ v.seen → origin_of x ≡ v.origin → Rests slots id (t + 1) v x (in_parts (r.ticket ∷ r.serving ∷ length r.history ∷ []) (none ∷ []) s.views)
  rests s r o slots id t v x at lives held mine has from = let w : View = resting v in let k = r.callers in let fits = r.each id v at lives in let same = holder_is s r o id v at held in
      let served : v.ticket ≡ Some r.serving = ap (λ (u : View). u.ticket) (sym same) ∙ o.served in let now : r.serving ≡ t = same_Some r.serving t (sym served ∙ mine) in (
        w,
        gives,
        tt,
        record {
          history = r.history;
          ticket = r.ticket;
          serving = t + 1;
          words = refl;
          queue = subst (λ (n : ℕ). AreQueued r.ticket (n + 1) (set s.views id w)) now (queue_served r.ticket r.serving s.views id v w r.queue at served refl refl);
          home_or_out = inl record {
            value = x;
            homes = refl;
            entries_are = has ∙ (ap (λ (u : View). u.seen) (sym same) ∙ o.knows);
            origin_is = from ∙ fits.origin_is;
            none_holds = λ j u p. ⊎_elim (λ (y : (j ≡ id) × (w ≡ u)). ap (λ (z : View). z.holds) (sym y.1)) (λ (y : (j ≢ id) × At s.views j u). false_from_ne_true u.holds (λ h. y.0 (o.only j u y.1 h ∙ sym (o.only id v at held)))) (at_set s.views id j w u p);
          };
          each = each_stays r.history s.views id w record { origin_is = fits.origin_is; begins = fits.begins; own_seen = fits.own_seen; own_all = fits.own_all } (λ j u _ p lu. r.each j u p lu);
          callers = changed s r id v w r.history at lives lives refl refl refl refl (λ c calls e. (k.calls.ended_are c calls e).1)
              (λ c calls e same'. ap (λ (u : View). calls_by c u.seen) (sym same') ∙ (k.calls.ended_are c calls (ap (λ (u : View). ended_of c u.ended) same' ∙ e)).0) k.calls.strangers;
        },
        refl,
      )

  pub frees : (slots id t : ℕ) (v : View) (x : T) → v.spent ≡ false → v.holds ≡ true → v.ticket ≡ Some t → entries x ≡ v.seen → origin_of x ≡ v.origin
      → Allows Rule slots id (v, (0, Some x) ∷ []) 1 (λ _. t + 1) (λ _. freed (step slots 1 (t + 1) 0 none) (v, (0, Some x) ∷ []) (t + 1))
  frees slots id t v x lives held mine has from s r _ at _ = ⊎_elim (λ (h : IsHome entries origin_of origin r.history s). absurd (both_ways v.holds (h.none_holds id v at) held))
      (λ (o : IsOut entries origin_of r.serving r.history s). subst (λ (z : List ℕ × List (Place (Option T))). Rests slots id (t + 1) v x (in_parts z.0 z.1 s.views)) (λ i. (sym r.words i, sym o.homes i)) (rests s r o slots id t v x at lives held mine has from)) r.home_or_out

  pub learns : (slots id : ℕ) (m : M) → m.0.caller ≡ 0 → m.0.spent ≡ false → Allows Rule slots id m 0 (λ n. n) (informed (step slots 0 0 0 none) m)
  learns slots id m zero_is lives s r _ at _ = let v : View = m.0 in let k = r.callers in let fits = r.each id v at lives in
      let chief : k.chief ≡ v = one_at s.views id k.chief v (ap (get_elem? s.views) (sym (k.seats.apart k.root id k.chief v k.seats.at_root at k.seats.root_live lives (k.seats.root_zero ∙ sym zero_is))) ∙ k.seats.at_root) at in (
        v,
        keeps,
        tt,
        subst (λ (z : List ℕ × List View). Rule (in_parts z.0 s.homes z.1)) (λ i. (sym (set-get_or s.words 0 0) i, sym (set_again s.views id v at) i)) r,
        (
          refl,
          record {
            own = fits.own_seen;
            of_ended = λ c calls e. ap (λ (u : View). calls_by c u.seen) (sym chief) ∙ (k.calls.ended_are c calls (ap (λ (u : View). ended_of c u.ended) chief ∙ e)).0;
            of_others = λ c n e. calls_by_begun c r.history v.seen fits.begins (k.calls.strangers c n (ap (λ (u : View). is_among c u.used) chief ∙ e));
          },
        ),
      )

  -- the same, of seats as they stand in the code
  abbrev AllowsSeat : ℕ → ℕ → M → ℕ → (ℕ → ℕ) → (M → ℕ → M → Type 0) → Type 0
  AllowsSeat slots id m i f then = Allows Rule slots id m i f (then m)

  pub draws_seat : (slots id old : ℕ) (m : M) → IsIdle m → Allows Rule slots id m 0 (λ n. either (eqb n old) (old + 1) n) (drawn (step slots 0 old (old + 1) none) m)
  draws_seat slots id old m d = subst (λ (c : List (ℕ × Option T)). AllowsSeat slots id (m.0, c) 0 (λ n. either (eqb n old) (old + 1) n) (drawn (step slots 0 old (old + 1) none))) (sym d.empty)
      (draws slots id old m.0 d.live d.rests d.no_ticket)

  pub awaits_seat : (slots id t : ℕ) (m : M) → IsWaiting m t → Allows Rule slots id m 1 (λ n. n) (awaited entries origin_of (step slots 1 0 0 none) m)
  awaits_seat slots id t m d = subst (λ (c : List (ℕ × Option T)). AllowsSeat slots id (m.0, c) 1 (λ n. n) (awaited entries origin_of (step slots 1 0 0 none))) (sym d.empty)
      (awaits slots id t m.0 d.live d.rests d.ticket_is)

  pub observes_seat : (slots id : ℕ) (m : M) → IsIdle m → Allows Rule slots id m 1 (λ n. n) (observed (step slots 1 0 0 none) m)
  observes_seat slots id m d = subst (λ (c : List (ℕ × Option T)). AllowsSeat slots id (m.0, c) 1 (λ n. n) (observed (step slots 1 0 0 none))) (sym d.empty)
      (observes slots id m.0 d.live d.rests)

  pub asks_seat : (slots id old : ℕ) (m : M) → MayAsk m old → Allows Rule slots id m 0 (λ n. either (eqb n old) (old + 1) n) (asked entries origin_of (step slots 0 old (old + 1) none) m)
  asks_seat slots id old m d = subst (λ (c : List (ℕ × Option T)). AllowsSeat slots id (m.0, c) 0 (λ n. either (eqb n old) (old + 1) n) (asked entries origin_of (step slots 0 old (old + 1) none))) (sym d.empty)
      (asks slots id old m.0 d.live d.rests d.no_ticket d.note_is)

pub founder_sound : (origin : List ℕ) → IsSound (founder origin ∷ []) 0 0
founder_sound origin = record { one = refl; caller_is = refl; out_is = refl; rests = refl; live = refl; no_ticket = refl; no_note = refl; books = record { distinct = tt; small = λ c h. cc; some_out = omega arith } }
