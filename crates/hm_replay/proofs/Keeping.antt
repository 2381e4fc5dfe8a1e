-- What is set among names that have room, and what an insertion does to it.
use Rattle.std.proofs.Common.{◌≡◌, ℕ, Bool, true, false, cond, List, [], ◌∷◌, ◌++◌, Option, Some, None, Result, Ok, Err, Vec, slice_index_or, refl, sym, ◌∙◌, ap, subst}
use Rattle.std.specs.Prelude.{IfSome, IsSome, OnOk, OnErr}
use mathlib.Core.Path.{fun_ext}
use Rattle.std.specs.BTreeMap.{insert_entry}
use Rattle.std.specs.Map.{keys_of}
use Rattle.std.specs.List.{AllByRecursion}
use Rattle.std.specs.List.Sorted.{IsStrictlySortedBy}
use Rattle.std.specs.Cmp.Lexicographic.{same_text, texts_ties}
use Rattle.std.specs.Option.{is_some, option_map_or}
use Rattle.std.specs.Ordering.{is_eq, match_ordering}
use Rattle.std.specs.declared.alloc.Global.{Global}
use Rattle.std.specs.declared.cmp.Ordering.{Ordering}
use Rattle.std.specs.declared.cmp.Ordering.TheVariants.{Less, Equal, Greater}
use Rattle.hm_trace.specs.declared.names.Name.{Name}
use Rattle.hm_trace.specs.Names.{is_word}
use Rattle.hm_trace.specs.Views.{name_view}
use Rattle.hm_heap.specs.Requests.{IsInReach}
use Rattle.hm_replay.specs.declared.left.NameLeft.{NameLeft}
use Rattle.hm_replay.specs.Names.{held, seen_in, with_name}
use Rattle.hm_replay.specs.Rooms.{set_also, set_in, Once, AreRooms, KeepsRooms, AreOwn, HaveRooms, HaveAllRooms}
use Rattle.hm_replay.proofs.Held.{Updated, by_bytes, by_order, inserted_each, looked, set_over, updated, word_itself}
use Rattle.hm_replay.proofs.Starts.{each_pushed}

-- ---- what is set is what is held
held_by : (n : Name) (o : Option ℕ) (es : List (Name × Option ℕ)) (q : List ℕ) (b : Bool) → is_word q (name_view n) ≡ b
    → held es (name_view n) ≡ None → held (set_in es) q ≡ seen_in ([], es) q
    → held (set_also n o (set_in es)) q ≡ option_map_or (λ (g : Option ℕ). g) (cond b (Some o) (held es q)) None
held_by n None es q true is none later =
    later ∙ ap (λ (z : List ℕ). option_map_or (λ (g : Option ℕ). g) (held es z) None) (same_text q (name_view n) (sym is))
    ∙ ap (λ (o : Option (Option ℕ)). option_map_or (λ (g : Option ℕ). g) o None) none
held_by n None es q false is none later = later
held_by n (Some a) es q true is none later = ap (λ (b : Bool). cond b (Some a) (held (set_in es) q)) is
held_by n (Some a) es q false is none later = ap (λ (b : Bool). cond b (Some a) (held (set_in es) q)) is ∙ later

pub held_set : (es : List (Name × Option ℕ)) → Once es → (q : List ℕ) → held (set_in es) q ≡ seen_in ([], es) q
held_set [] once q = refl
held_set (e ∷ es) once q = held_by e.0 e.1 es q (is_word q (name_view e.0)) refl once.0 (held_set es once.1 q)

-- ---- names in order stand there once
not_held : (x : Name) (es : List (Name × Option ℕ)) → AllByRecursion (λ (y : Name). by_bytes x y ≡ Less) (keys_of es)
    → held es (name_view x) ≡ None
not_held x [] all = refl
not_held x (e ∷ es) all =
    ap (λ (b : Bool). cond b (Some e.1) (held es (name_view x)))
    (texts_ties (name_view x) (name_view e.0) ∙ ap is_eq all.0)
    ∙ not_held x es all.1

pub once_ordered : (es : List (Name × Option ℕ)) → IsStrictlySortedBy by_bytes (keys_of es) → Once es
unfolding IsStrictlySortedBy
once_ordered [] ordered = tt
once_ordered (e ∷ es) ordered = (not_held e.0 es ordered.0, once_ordered es ordered.1)

-- ---- room for one more name
module _ (k : Name) where
  room_at : (e : Name × Option ℕ) (es : List (Name × Option ℕ)) (o : Ordering) → by_bytes k e.0 ≡ o
      → held (e ∷ es) (name_view k) ≡ None
      → (held es (name_view k) ≡ None → set_in (insert_entry by_bytes es k None) ≡ set_in es)
      → set_in (match_ordering o ((k, None) ∷ e ∷ es) ((e.0, None) ∷ es) (e ∷ insert_entry by_bytes es k None))
      ≡ set_in (e ∷ es)
  room_at e es Less is none later = refl
  room_at e es Equal is none later =
      let no : Some e.1 ≡ None =
      sym (ap (λ (b : Bool). cond b (Some e.1) (held es (name_view k)))
      (texts_ties (name_view k) (name_view e.0) ∙ ap is_eq is)) ∙ none in
      absurd cc
  room_at e es Greater is none later =
      ap (λ (l : List (Name × ℕ)). set_also e.0 e.1 l)
      (later (sym (ap (λ (b : Bool). cond b (Some e.1) (held es (name_view k)))
      (texts_ties (name_view k) (name_view e.0) ∙ ap is_eq is)) ∙ none))

  pub room_taken : (es : List (Name × Option ℕ)) → held es (name_view k) ≡ None
      → set_in (insert_entry by_bytes es k None) ≡ set_in es
  room_taken [] none = refl
  room_taken (e ∷ es) none = room_at e es (by_bytes k e.0) refl none (room_taken es)

pub none_of : {X : Type 0} (o : Option X) → is_some o ≡ false → o ≡ None
none_of None is = refl
none_of (Some x) is = absurd cc

-- ---- an insertion
module _ (es fs : List (Name × Option ℕ)) (name : Name) (given : Option ℕ) where
  pub are_rooms : {A B U : Type 0} (r : Result A B) → (U → Updated es fs name (Some given)) → OnOk r U
      → OnErr r (fs ≡ es) → IsStrictlySortedBy by_bytes (keys_of fs) → AreRooms es → IfSome given IsInReach → AreRooms fs
  are_rooms r says ok err ordered was reach = record {
    once = once_ordered fs ordered;
    reach = inserted_each r es fs name (Some given) (λ (g : Option ℕ). IfSome g IsInReach) says ok err was.reach reach;
  }

  stays : (b : Bool) (o : Option (Option ℕ)) → IsSome o → IsSome (cond b (Some given) o)
  stays true o some = refl
  stays false o some = some

  pub others_stay : Updated es fs name (Some given) → (q : List ℕ) → IsSome (held es q) → IsSome (held fs q)
  others_stay says q some =
      subst (λ (o : Option (Option ℕ)). IsSome o) (sym (updated es fs name (Some given) says q))
      (stays (is_word (name_view name) q) (held es q) some)

  pub has_room : by_order (name_view name) fs ≡ Some given → IsSome (held fs (name_view name))
  has_room is =
      subst (λ (o : Option (Option ℕ)). IsSome o) (sym (sym (looked fs (name_view name)) ∙ is)) (the_some given)
    where
      the_some : (g : Option ℕ) → IsSome (Some g)
      the_some g = refl

  -- it is what was set last
  pub own_set : Updated es fs name (Some given) → AreRooms fs → (n : NameLeft) → n.name ≡ name → n.address ≡ given
      → AreOwn fs (Some n)
  own_set says rooms n name_is given_is = record {
    rooms = rooms;
    last_is =
        ap (λ (k : Name). held fs (name_view k)) name_is ∙ updated es fs name (Some given) says (name_view name)
        ∙ ap (λ (b : Bool). cond b (Some given) (held es (name_view name))) (word_itself (name_view name))
        ∙ sym (ap (λ (o : Option ℕ). Some o) given_is);
  }

  pub is_set : Updated es fs name (Some given) → Once es → Once fs
      → held (set_in fs) ≡ with_name (held (set_in es)) (name_view name) given
  is_set says was now = fun_ext (λ q.
      held_set fs now q ∙ ap (λ (n : List ℕ → Option ℕ). n q) (set_over [] es fs name given says)
      ∙ ap (λ (o : Option ℕ). cond (is_word (name_view name) q) given o) (sym (held_set es was q)))

  -- a name that has room is set in any case
  pub sure : {A B U : Type 0} (r : Result A B) → OnErr r (by_order (name_view name) es ≡ None)
      → IsSome (held es (name_view name)) → OnOk r U → U
  sure (Ok x) none some all = all
  sure (Err e) none some all =
      absurd (no (subst (λ (o : Option (Option ℕ)). IsSome o) (sym (looked es (name_view name)) ∙ none) some))
    where
      no : IsSome {T = Option ℕ} None → ⊥
      no is = absurd cc

pub keeps_itself : (es : List (Name × Option ℕ)) → KeepsRooms es es
keeps_itself es = record { rooms = λ rooms. rooms; others = λ q some. some }

pub keeps_then : (es fs gs : List (Name × Option ℕ)) → KeepsRooms es fs → KeepsRooms fs gs → KeepsRooms es gs
keeps_then es fs gs a b = record { rooms = λ rooms. b.rooms (a.rooms rooms); others = λ q some. b.others q (a.others q some) }

-- ---- names one after another
module _ (e : Name × Option ℕ) (es : List (Name × Option ℕ)) (rooms : AreRooms (e ∷ es)) where
  pub first_reach : IfSome e.1 IsInReach
  first_reach =
      subst (λ (b : Bool). IfSome (cond b (Some e.1) (held es (name_view e.0))) (λ (given : Option ℕ). IfSome given IsInReach))
      (word_itself (name_view e.0)) (rooms.reach (name_view e.0))

  pub rooms_later : AreRooms es
  rooms_later = record { once = rooms.once.1; reach = λ q. by q (is_word q (name_view e.0)) refl }
    where
      by : (q : List ℕ) (b : Bool) → is_word q (name_view e.0) ≡ b
          → IfSome (held es q) (λ (given : Option ℕ). IfSome given IsInReach)
      by q true is =
          subst (λ (o : Option (Option ℕ)). IfSome o (λ (given : Option ℕ). IfSome given IsInReach))
          (sym (ap (λ (n : List ℕ). held es n) (same_text q (name_view e.0) (sym is)) ∙ rooms.once.0)) tt
      by q false is =
          subst (λ (b : Bool). IfSome (cond b (Some e.1) (held es q)) (λ (given : Option ℕ). IfSome given IsInReach)) is
          (rooms.reach q)

-- ---- room for names
pub rooms_more : (es fs : List (Name × Option ℕ)) (left : List NameLeft) (n : NameLeft) → HaveRooms es left
    → KeepsRooms es fs → IsSome (held fs (name_view n.name)) → HaveRooms fs (left ++ n ∷ [])
rooms_more es fs left n have kept this = record {
  each =
      each_pushed (λ (i : ℕ) (m : NameLeft). IsSome (held fs (name_view m.name))) left n
      (λ i m l. kept.others _ (have.each i m l)) this;
}

pub rooms_stay : (es fs : List (Name × Option ℕ)) (left : List NameLeft) → HaveRooms es left → KeepsRooms es fs
    → HaveRooms fs left
rooms_stay es fs left have kept = record { each = λ i n l. kept.others _ (have.each i n l) }

pub all_rooms_more : (es fs : List (Name × Option ℕ)) (lists : List (Vec NameLeft Global)) (left : Vec NameLeft Global)
    → HaveAllRooms es lists → KeepsRooms es fs → HaveRooms fs left.items → HaveAllRooms fs (lists ++ left ∷ [])
all_rooms_more es fs lists left have kept this = record {
  each =
      each_pushed (λ (i : ℕ) (v : Vec NameLeft Global). HaveRooms fs v.items) lists left
      (λ i v l. rooms_stay es fs (slice_index_or lists i v).items (have.each i v l) kept) this;
}
