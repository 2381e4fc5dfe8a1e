-- What two entries that may come next have in common, call by call.
use Rattle.std.proofs.Common.{◌≡◌, ⊎_elim, ℕ, ◌+◌, Bool, true, false, cond, ◌&&◌, List, Option, Some, None, sym, ◌∙◌, ap, subst, refl, true≢false}
use Rattle.std.specs.Prelude.{is_some, slice_index_or, IsTrue}
use Rattle.std.proofs.lemmas.Bool.{false_from_ne_true}
use Rattle.std.proofs.lemmas.Option.{none-some, same_Some}
use Rattle.hm_quarantine.specs.Quarantine.{let_go}
use Rattle.hm_choice.specs.Stream.{canary_of}
use Rattle.hm_model.specs.Calls.{no_choices}
use Rattle.hm_model.specs.Entries.{AreDraws}
use Rattle.hm_model.specs.Maps.{among}
use Rattle.hm_model.specs.declared.entry.Entry.{Entry}
use Rattle.hm_model.specs.declared.entry.Draws.{Draws}
use Rattle.hm_model.specs.declared.entry.Choices.{Choices}
use Rattle.hm_model.specs.declared.entry.Call.{Call}
use Rattle.hm_model.specs.declared.entry.Call.TheVariants.{Allot, GiveBack, Measure, Fetch, Fill}
use Rattle.hm_model.specs.declared.entry.Reply.{Reply}
use Rattle.hm_model.specs.declared.entry.Reply.TheVariants.{Given, Overwritten, Exhausted, PagesFailed, Freed, NoSlot, Unused, DoubleFree, WrongSize, Canary, Usable, Bytes, Filled, Trap}
use Rattle.hm_sizes.specs.Shapes.{IsShape, has_bytes, usable, slab_of, slot_of, is_slot}
use Rattle.hm_sizes.specs.declared.shape.Shape.{Shape}
use Rattle.hm_class_rules.specs.State.{State, is_live}
use Rattle.hm_class_rules.specs.Steps.{opened, takes_back, releases}
use Rattle.hm_class_rules.specs.Rules.{Terms, Picks, reuse_finds, surplus, Empties, Allows}
use Rattle.hm_class_rules.specs.Judged.{first_reply}
use Rattle.hm_class_rules.specs.Draws.{Picked, Undrawn, event_of, start_words, array_words, parking_words, word_count, words_from, words_of, start_slot, array_index, parking_index}
use Rattle.hm_class_rules.specs.Drawn.{first_free, unparked_by}
use Rattle.hm_class_rules.specs.Stepped.{Cells, front, IsSteppedPicking, IsSteppedEvent}
use Rattle.hm_class_rules.proofs.JudgedReplies.{judged_law}
use Rattle.hm_model.specs.Replies.{is_page_fault, HasRuns}
use Rattle.hm_class_rules.proofs.SameWords.{same_draws, same_index}
use Rattle.hm_class_rules.proofs.SameSlab.{source_none, same_opened, same_slab, same_option}
use Rattle.hm_class_rules.proofs.SameRuns.{same_runs}

-- what is known of one entry, at a call and a reply
pub record Stands (t : Terms) (c : Cells) (e : Entry) (call : Call) (r : Reply) : Type 0 where
  pub before : ℕ
  pub now : ℕ
  pub allows : Allows t c.state before now e.choices call r
  pub draws : AreDraws e.draws
  pub count : e.draws.used ≡ word_count t e.choices (event_of call r)
  pub words : words_of e.draws ≡ words_from c.stream e.draws.used
  pub stepped : IsSteppedEvent t c e (event_of call r)
  pub runs : HasRuns r

-- the replies, the choices and the words are the same
pub record Agree (e f : Entry) (r q : Reply) : Type 0 where
  pub replies : r ≡ q
  pub choices : e.choices ≡ f.choices
  pub draws : e.draws ≡ f.draws

-- ---- a picked place
record IsPick (t : Terms) (c : Cells) (e : Entry) (a : ℕ) : Type 0 where
  picks : Picks t.shape c.state (opened t.shape e.choices.opened e.choices.canary c.state) e.choices a
  draws : AreDraws e.draws
  count : e.draws.used ≡ word_count t e.choices (Picked a)
  words : words_of e.draws ≡ words_from c.stream e.draws.used
  stepped : IsSteppedPicking t c e a

record SamePick (e f : Entry) (a b : ℕ) : Type 0 where
  choices : e.choices ≡ f.choices
  draws : e.draws ≡ f.draws
  place : a ≡ b

same_pick : (t : Terms) (c : Cells) (e f : Entry) (a b : ℕ) → IsShape t.shape → IsPick t c e a → IsPick t c f b → SamePick e f a b
same_pick t c e f a b shape x y =
    let p : Shape = t.shape in
    let opens : e.choices.opened ≡ f.choices.opened = same_opened p c.state e.choices.opened f.choices.opened (slab_of p a) (slab_of p b) shape x.picks.source y.picks.source in
    let used : e.draws.used ≡ f.draws.used =
    x.count ∙ ap (λ (o : Option ℕ). cond (has_bytes p && is_some o) 2 0 + start_words t.config) opens ∙ sym y.count in
    let draws : e.draws ≡ f.draws = same_draws c.stream e.draws f.draws x.draws y.draws used x.words y.words in
    let canary : e.choices.canary ≡ f.choices.canary =
    same_option e.choices.canary f.choices.canary (canary_of e.draws.w0 e.draws.w1) (canary_of f.draws.w0 f.draws.w1)
    (ap (λ (d : Draws). canary_of d.w0 d.w1) draws)
    (x.picks.canary ∙ ap (λ (o : Option ℕ). has_bytes p && is_some o) opens ∙ sym y.picks.canary)
    x.stepped.picked.canary y.stepped.picked.canary in
    let chosen : e.choices ≡ f.choices =
    x.picks.choices ∙ (λ i. record no_choices { canary = canary i; opened = opens i }) ∙ sym y.picks.choices in
    let slab : slab_of p a ≡ slab_of p b =
    same_slab p c.state e.choices.opened f.choices.opened (front c.partial c.empty) (slab_of p a) (slab_of p b) x.picks.source y.picks.source opens x.stepped.source y.stepped.source in
    let place : Some a ≡ Some b =
    sym x.stepped.picked.place
    ∙ (λ i. first_free p (opened p (chosen i).opened (chosen i).canary c.state) (slab i) (start_slot t (chosen i) (draws i)))
    ∙ y.stepped.picked.place in
    record { choices = chosen; draws = draws; place = same_Some a b place }

-- the reply, by what the check on reuse finds
found_reply : ℕ → ℕ → Option (ℕ × ℕ) → Reply
found_reply size a None = Given a size
found_reply size a (Some found) = Overwritten a found.0 found.1

finds : Terms → Cells → Choices → ℕ → Option (ℕ × ℕ)
finds t c ch a = reuse_finds t.config t.shape (opened t.shape ch.opened ch.canary c.state) a

picks_agree : (t : Terms) (c : Cells) (e f : Entry) (a b : ℕ) (r q : Reply) → IsShape t.shape → IsPick t c e a → IsPick t c f b
    → r ≡ found_reply (usable t.shape) a (finds t c e.choices a) → q ≡ found_reply (usable t.shape) b (finds t c f.choices b)
    → Agree e f r q
picks_agree t c e f a b r q shape x y hr hq =
    let same : SamePick e f a b = same_pick t c e f a b shape x y in
    record {
      replies = hr ∙ (λ i. found_reply (usable t.shape) (same.place i) (finds t c (same.choices i) (same.place i))) ∙ sym hq;
      choices = same.choices;
      draws = same.draws;
    }

given_is : (t : Terms) (c : Cells) (ch : Choices) (a size : ℕ) → size ≡ usable t.shape → finds t c ch a ≡ None → Given a size ≡ found_reply (usable t.shape) a (finds t c ch a)
unfolding found_reply
given_is t c ch a size e h = ap (λ (n : ℕ). Given a n) e ∙ sym (ap (found_reply (usable t.shape) a) h)

overwritten_is : (t : Terms) (c : Cells) (ch : Choices) (a at found : ℕ) → finds t c ch a ≡ Some (at, found) → Overwritten a at found ≡ found_reply (usable t.shape) a (finds t c ch a)
unfolding found_reply
overwritten_is t c ch a at found h = sym (ap (found_reply (usable t.shape) a) h)

-- no word is drawn
undrawn : (c : Cells) (e f : Entry) → AreDraws e.draws → AreDraws f.draws → e.draws.used ≡ 0 → f.draws.used ≡ 0
    → words_of e.draws ≡ words_from c.stream e.draws.used → words_of f.draws ≡ words_from c.stream f.draws.used
    → e.draws ≡ f.draws
undrawn c e f ze zf ue uf he hf = same_draws c.stream e.draws f.draws ze zf (ue ∙ sym uf) he hf

-- nothing is chosen or drawn
plain : (t : Terms) (c : Cells) (e f : Entry) (call : Call) (r q : Reply) → Stands t c e call r → Stands t c f call q
    → event_of call r ≡ Undrawn → event_of call q ≡ Undrawn
    → r ≡ q → e.choices ≡ no_choices → f.choices ≡ no_choices → Agree e f r q
plain t c e f call r q x y er eq same ce cf = record {
  replies = same;
  choices = ce ∙ sym cf;
  draws = undrawn c e f x.draws y.draws (x.count ∙ ap (word_count t e.choices) er) (y.count ∙ ap (word_count t f.choices) eq) x.words y.words;
}

-- ---- allotting
module _ (t : Terms) (c : Cells) (shape : IsShape t.shape) (told : IsTrue t.told) (e f : Entry) (asked align : ℕ) where
  given_pick : (g : Entry) (a size : ℕ) → Stands t c g (Allot asked align) (Given a size) → IsPick t c g a
  given_pick g a size x = record { picks = x.allows.0; draws = x.draws; count = x.count; words = x.words; stepped = x.stepped }

  over_pick : (g : Entry) (a at found : ℕ) → Stands t c g (Allot asked align) (Overwritten a at found) → IsPick t c g a
  over_pick g a at found x = record { picks = x.allows.0; draws = x.draws; count = x.count; words = x.words; stepped = x.stepped }

  -- one entry picks
  picks_and : (a : ℕ) (r q : Reply) → IsPick t c e a → r ≡ found_reply (usable t.shape) a (finds t c e.choices a)
      → false ≡ is_page_fault q → Stands t c f (Allot asked align) q → Agree e f r q
  unfolding finds
  picks_and a r (Given b size) x hr flag y =
      picks_agree t c e f a b r (Given b size) shape x (given_pick f b size y) hr (given_is t c f.choices b size y.allows.1 (y.allows.2 told))
  picks_and a r (Overwritten b at found) x hr flag y =
      picks_agree t c e f a b r (Overwritten b at found) shape x (over_pick f b at found y) hr (overwritten_is t c f.choices b at found (y.allows.2 told))
  picks_and a r Exhausted x hr flag y =
      absurd (source_none t.shape c.state e.choices.opened (slab_of t.shape a) shape x.picks.source y.allows.0 y.allows.1)
  picks_and a r PagesFailed x hr flag y = absurd (true≢false (sym flag))
  picks_and a r q x hr flag y = absurd y.allows

  exhausts_and : (q : Reply) → Stands t c e (Allot asked align) Exhausted → false ≡ is_page_fault q → Stands t c f (Allot asked align) q → Agree e f Exhausted q
  exhausts_and (Given b size) x flag y =
      absurd (source_none t.shape c.state f.choices.opened (slab_of t.shape b) shape y.allows.0.source x.allows.0 x.allows.1)
  exhausts_and (Overwritten b at found) x flag y =
      absurd (source_none t.shape c.state f.choices.opened (slab_of t.shape b) shape y.allows.0.source x.allows.0 x.allows.1)
  exhausts_and Exhausted x flag y = plain t c e f (Allot asked align) Exhausted Exhausted x y refl refl refl x.allows.2 y.allows.2
  exhausts_and PagesFailed x flag y = absurd (true≢false (sym flag))
  exhausts_and q x flag y = absurd y.allows

  fault_and : (q : Reply) → Stands t c e (Allot asked align) PagesFailed → true ≡ is_page_fault q → Stands t c f (Allot asked align) q → Agree e f PagesFailed q
  fault_and PagesFailed x flag y = plain t c e f (Allot asked align) PagesFailed PagesFailed x y refl refl refl x.allows.4 y.allows.4
  fault_and q x flag y = absurd (true≢false flag)

  pub allot_agree : (r q : Reply) → is_page_fault r ≡ is_page_fault q → Stands t c e (Allot asked align) r → Stands t c f (Allot asked align) q → Agree e f r q
  unfolding finds
  allot_agree (Given a size) q flag x y = picks_and a (Given a size) q (given_pick e a size x) (given_is t c e.choices a size x.allows.1 (x.allows.2 told)) flag y
  allot_agree (Overwritten a at found) q flag x y =
      picks_and a (Overwritten a at found) q (over_pick e a at found x) (overwritten_is t c e.choices a at found (x.allows.2 told)) flag y
  allot_agree Exhausted q flag x y = exhausts_and q x flag y
  allot_agree PagesFailed q flag x y = fault_and q x flag y
  allot_agree r q flag x y = absurd x.allows

-- ---- giving back
record SameEmptied (c d : Choices) : Type 0 where
  retired : c.retired ≡ d.retired
  purged : c.purged ≡ d.purged

same_emptied : (t : Terms) (s : State) (b n k l : ℕ) (c d : Choices) (o : Option ℕ) → Empties t s b n c o → Empties t s k l d o → is_some c.purged ≡ is_some d.purged → SameEmptied c d
same_emptied t s b n k l c d None x y flag = record { retired = x.0 ∙ sym y.0; purged = x.1 ∙ sym y.1 }
same_emptied t s b n k l c d (Some m) x y flag =
    ⊎_elim
    (λ u. ⊎_elim
    (λ v. record { retired = u.0 ∙ sym v.0; purged = u.1 ∙ sym v.1 })
    (λ v. absurd (true≢false (sym (sym (ap is_some u.1) ∙ flag ∙ ap is_some v.1)))) y)
    (λ u. ⊎_elim
    (λ v. absurd (true≢false (sym (ap is_some u.1) ∙ flag ∙ ap is_some v.1)))
    (λ v. record { retired = u.0 ∙ sym v.0; purged = u.1 ∙ sym v.1 }) y)
    x

freed_agree : (t : Terms) (c : Cells) (e f : Entry) (a : ℕ) (stated : Option ℕ) → is_some e.choices.purged ≡ is_some f.choices.purged
    → Stands t c e (GiveBack a stated) Freed → Stands t c f (GiveBack a stated) Freed → Agree e f Freed Freed
freed_agree t c e f a stated flag x y =
    let p : Shape = t.shape in
    let place : array_index p e.draws ≡ array_index p f.draws =
    same_index p.array c.stream e.draws f.draws (parking_words e.choices) (parking_words f.choices) x.count y.count x.words y.words in
    let released : e.choices.released ≡ f.choices.released =
    x.stepped.released ∙ ap (λ (n : ℕ). let_go c.quarantine a n) place ∙ sym y.stepped.released in
    let after : Option ℕ → State = λ o. releases o (takes_back p a c.state) in
    let there : Empties t (after e.choices.released) y.before y.now f.choices (surplus p (after e.choices.released) e.choices.released) =
    subst (λ (o : Option ℕ). Empties t (after o) y.before y.now f.choices (surplus p (after o) o)) (sym released) y.allows.emptied in
    let gone : SameEmptied e.choices f.choices =
    same_emptied t (after e.choices.released) x.before x.now y.before y.now e.choices f.choices (surplus p (after e.choices.released) e.choices.released)
    x.allows.emptied there flag in
    let used : e.draws.used ≡ f.draws.used =
    x.count ∙ ap (λ (o : Option ℕ). array_words p + cond (is_some o) 1 0) gone.retired ∙ sym y.count in
    let draws : e.draws ≡ f.draws = same_draws c.stream e.draws f.draws x.draws y.draws used x.words y.words in
    let unparked : e.choices.unparked ≡ f.choices.unparked =
    x.stepped.unparked
    ∙ (λ i. unparked_by (gone.retired i) (slice_index_or c.parking (parking_index t (draws i)) None))
    ∙ sym y.stepped.unparked in
    record {
      replies = refl;
      choices = x.allows.choices
          ∙ (λ i. record no_choices { released = released i; retired = gone.retired i; purged = gone.purged i; unparked = unparked i })
          ∙ sym y.allows.choices;
      draws = draws;
    }

module _ (t : Terms) (c : Cells) (told : IsTrue t.told) (e f : Entry) where
  back_same : (a : ℕ) (stated : Option ℕ) (r : Reply) → is_some e.choices.purged ≡ is_some f.choices.purged
      → Stands t c e (GiveBack a stated) r → Stands t c f (GiveBack a stated) r → Agree e f r r
  back_same a stated NoSlot flag x y = plain t c e f (GiveBack a stated) NoSlot NoSlot x y refl refl refl x.allows.1 y.allows.1
  back_same a stated Unused flag x y = plain t c e f (GiveBack a stated) Unused Unused x y refl refl refl x.allows.1 y.allows.1
  back_same a stated DoubleFree flag x y = plain t c e f (GiveBack a stated) DoubleFree DoubleFree x y refl refl refl x.allows.1 y.allows.1
  back_same a stated (WrongSize block other) flag x y =
      plain t c e f (GiveBack a stated) (WrongSize block other) (WrongSize block other) x y refl refl refl x.allows.2 y.allows.2
  back_same a stated (Canary kept found) flag x y =
      plain t c e f (GiveBack a stated) (Canary kept found) (Canary kept found) x y refl refl refl x.allows.4 y.allows.4
  back_same a stated Freed flag x y = freed_agree t c e f a stated flag x y
  back_same a stated r flag x y = absurd x.allows

  pub back_agree : (a : ℕ) (stated : Option ℕ) (r q : Reply) → is_some e.choices.purged ≡ is_some f.choices.purged
      → Stands t c e (GiveBack a stated) r → Stands t c f (GiveBack a stated) q → Agree e f r q
  back_agree a stated r q flag x y =
      let same : r ≡ q =
      judged_law t c.state x.before x.now e.choices a stated r told x.allows
      ∙ sym (judged_law t c.state y.before y.now f.choices a stated q told y.allows) in
      let here : Stands t c f (GiveBack a stated) r = subst (λ (z : Reply). Stands t c f (GiveBack a stated) z) (sym same) y in
      let both : Agree e f r r = back_same a stated r flag x here in
      record { replies = same; choices = both.choices; draws = both.draws }

  -- ---- measuring
  measured : ℕ → Reply
  measured a = first_reply (is_slot t.shape a (slab_of t.shape a) (slot_of t.shape a)) (among a c.state.given) (is_live c.state a) (Usable (usable t.shape))

  first_is : (p g l x y z : Bool) (last : Reply) → p ≡ x → g ≡ y → l ≡ z → first_reply x y z last ≡ first_reply p g l last
  first_is p g l x y z last e f h = λ i. first_reply (sym e i) (sym f i) (sym h i) last

  measured_is : (g : Entry) (a : ℕ) (r : Reply) → Stands t c g (Measure a) r → r ≡ measured a
  unfolding measured
  measured_is g a NoSlot x = first_is _ _ _ false (among a c.state.given) (is_live c.state a) _ (false_from_ne_true _ x.allows.0) refl refl
  measured_is g a Unused x = first_is _ _ _ true false (is_live c.state a) _ x.allows.0.0 x.allows.0.1 refl
  measured_is g a DoubleFree x = first_is _ _ _ true true false _ x.allows.0.0 x.allows.0.1 x.allows.0.2
  measured_is g a (Usable size) x =
      ap (λ (n : ℕ). Usable n) x.allows.1 ∙ first_is _ _ _ true true true (Usable (usable t.shape)) x.allows.0.place x.allows.0.given x.allows.0.live
  measured_is g a r x = absurd x.allows

  measure_plain : (g : Entry) (a : ℕ) (r : Reply) → Stands t c g (Measure a) r → g.choices ≡ no_choices
  measure_plain g a NoSlot x = x.allows.1
  measure_plain g a Unused x = x.allows.1
  measure_plain g a DoubleFree x = x.allows.1
  measure_plain g a (Usable size) x = x.allows.2
  measure_plain g a r x = absurd x.allows

  pub measure_agree : (a : ℕ) (r q : Reply) → Stands t c e (Measure a) r → Stands t c f (Measure a) q → Agree e f r q
  measure_agree a r q x y =
      plain t c e f (Measure a) r q x y refl refl (measured_is e a r x ∙ sym (measured_is f a q y)) (measure_plain e a r x) (measure_plain f a q y)

  -- ---- reading and writing
  pub fetch_agree : (a len : ℕ) (r q : Reply) → Stands t c e (Fetch a len) r → Stands t c f (Fetch a len) q → Agree e f r q
  fetch_agree a len (Bytes xs) (Bytes ys) x y =
      plain t c e f (Fetch a len) (Bytes xs) (Bytes ys) x y refl refl
      (ap (λ (l : List (ℕ × ℕ)). Bytes l) (same_runs xs ys x.runs y.runs ((x.allows.1 told).1 ∙ sym (y.allows.1 told).1))) x.allows.2 y.allows.2
  fetch_agree a len (Bytes xs) (Trap q) x y = absurd (none-some q (sym (x.allows.1 told).0 ∙ y.allows.0 told))
  fetch_agree a len (Trap p) (Bytes ys) x y = absurd (none-some p (sym (y.allows.1 told).0 ∙ x.allows.0 told))
  fetch_agree a len (Trap p) (Trap q) x y =
      plain t c e f (Fetch a len) (Trap p) (Trap q) x y refl refl (ap (λ (n : ℕ). Trap n) (same_Some p q (sym (x.allows.0 told) ∙ y.allows.0 told))) x.allows.1 y.allows.1
  fetch_agree a len (Bytes xs) q x y = absurd y.allows
  fetch_agree a len (Trap p) q x y = absurd y.allows
  fetch_agree a len r q x y = absurd x.allows

  pub fill_agree : (a : ℕ) (runs : List (ℕ × ℕ)) (r q : Reply) → Stands t c e (Fill a runs) r → Stands t c f (Fill a runs) q → Agree e f r q
  fill_agree a runs Filled Filled x y = plain t c e f (Fill a runs) Filled Filled x y refl refl refl x.allows.1 y.allows.1
  fill_agree a runs Filled (Trap q) x y = absurd (none-some q (sym (x.allows.0 told) ∙ y.allows.0 told))
  fill_agree a runs (Trap p) Filled x y = absurd (none-some p (sym (y.allows.0 told) ∙ x.allows.0 told))
  fill_agree a runs (Trap p) (Trap q) x y =
      plain t c e f (Fill a runs) (Trap p) (Trap q) x y refl refl (ap (λ (n : ℕ). Trap n) (same_Some p q (sym (x.allows.0 told) ∙ y.allows.0 told))) x.allows.1 y.allows.1
  fill_agree a runs Filled q x y = absurd y.allows
  fill_agree a runs (Trap p) q x y = absurd y.allows
  fill_agree a runs r q x y = absurd x.allows
