-- What a look at the changes of the large region adds to what watches the rounds.
use Rattle.std.proofs.Common.{◌≡◌, ◌⊎◌, ℕ, ◌<◌, List, [], ◌++◌, append_assoc, length, drop, fold, slice_index_or, slice_set, Result, Ok, Err, arith, refl, ap, ◌∙◌, sym, subst}
use Rattle.std.specs.Prelude.{OnOk}
use Rattle.std.proofs.lemmas.List.{get_or-map, get_or-set_same, length-set}
use Rattle.std.proofs.Math.Seq.{drop-append_seam}
use mathlib.Core.Logic.{inl, inr}
use Rattle.hm_base.specs.declared.memory.NoMemory.{NoMemory}
use Rattle.hm_model.specs.declared.change.SizeChange.{SizeChange}
use Rattle.hm_model.specs.declared.entry.Entry.{Entry}
use Rattle.hm_model.specs.Changes.{changes_of, total_of}
use Rattle.hm_report.specs.declared.results.Results.{Results}
use Rattle.hm_sizes.specs.declared.config.Config.{Config}
use Rattle.hm_trace.specs.Views.{ScriptView}
use Rattle.hm_turn.specs.Histories.{StartsWith}
use Rattle.hm_turn.specs.Known.{Known}
use Rattle.hm_heap.specs.declared.changes.Changes.{Changes}
use Rattle.hm_heap.specs.Calls.{large_index}
use Rattle.hm_heap.specs.Changes.{HasLooked}
use Rattle.hm_heap.specs.Passes.{PassView}
use Rattle.hm_heap.proofs.Changing.{changes-append}
use Rattle.hm_replay.specs.Names.{Names}
use Rattle.hm_replay.specs.Replays.{HasReplayed}
use Rattle.hm_replay.specs.Watched.{seen_of, LooksKeep}
use Rattle.hm_snapshot.specs.Shown.{Shown, absorbed, shown_after}
use Rattle.hm_snapshot.proofs.Lists.{after-append, map_after}
use Rattle.hm_run.specs.declared.watching.Watch.{Watch}
use Rattle.hm_run.specs.declared.watching.Watcher.{Watcher}
use Rattle.hm_run.specs.declared.watching.Watcher.TheVariants.{Off, On}
use Rattle.hm_run.specs.Watches.{large_seen, size_sum, Follows, Tracks, TracksFront, MayHaveLooked}

-- ---- what was seen
abbrev seen : Known → List Entry
seen t = t.knows.seen

pub seen_before : (p : PassView) (index : ℕ) (t : Known) → index < length p.turns
    → seen_of p.turns index ≡ (slice_index_or p.turns index t).knows.seen
seen_before p index t b = get_or-map seen p.turns index t [] b

seen_after : (p q : PassView) (index from : ℕ) (found : Result Changes NoMemory) (l : HasLooked p q index from found)
    → seen_of q.turns index ≡ l.turn.knows.seen
seen_after p q index from found l =
    ap (λ (ts : List Known). seen_of ts index) l.turns_are
    ∙ get_or-map seen (slice_set p.turns index l.turn) index l.turn []
    (omega (arith, l.inside, length-set p.turns index l.turn))
    ∙ ap seen (get_or-set_same p.turns index l.turn l.turn l.inside)

-- the changes go on from those of what was followed
pub looked_more : (p q : PassView) (index from : ℕ) (changes : Changes) (front : List Entry)
    → HasLooked p q index from (Ok changes) → StartsWith (seen_of p.turns index) front → from ≡ length front
    → (changes.upto ≡ length (seen_of q.turns index))
    × (changes_of (seen_of q.turns index) ≡ changes_of front ++ changes.list.items)
looked_more p q index from changes front l begins is =
    let now = seen_after p q index from (Ok changes) l in
    let old = seen_before p index l.turn l.inside in
    let looked = (l.looked l.turn).1 in
    let more : List Entry = begins.0 ++ looked.begins.0 in
    let whole : l.turn.knows.seen ≡ front ++ more =
    looked.begins.1 ∙ ap (λ (es : List Entry). es ++ looked.begins.0) (sym old ∙ begins.1)
    ∙ append_assoc front begins.0 looked.begins.0 in
    let rest : drop from l.turn.knows.seen ≡ more =
    ap (drop from) whole ∙ ap (λ (n : ℕ). drop n (front ++ more)) is ∙ drop-append_seam front more in (
      looked.changes.0 ∙ ap (λ (es : List Entry). length es) (sym now),
      ap changes_of (now ∙ whole) ∙ changes-append front more
          ∙ ap (λ (cs : List SizeChange). changes_of front ++ cs) (ap changes_of (sym rest) ∙ sym looked.changes.1),
    )

-- ---- what is followed
pub follows_on : (w v : Watch) (front es : List Entry) (list : List SizeChange) → Follows w front
    → changes_of es ≡ changes_of front ++ list → v.writer.list ≡ w.writer.list ++ list → v.writer.waiting ≡ []
    → v.own ≡ fold absorbed w.own list → v.upto ≡ length es → Follows v es
follows_on w v front es list f same published waiting own upto = record {
  published = published ∙ ap (λ (cs : List SizeChange). cs ++ list) f.published ∙ sym same;
  none_waits = waiting;
  own =
      own ∙ ap (λ (s : Shown). fold absorbed s list) f.own ∙ sym (after-append (changes_of front) list)
      ∙ ap shown_after (sym same);
  upto = upto;
}

pub tracks_front : (w : Watcher) (front es : List Entry) → StartsWith es front → Tracks w front → TracksFront w es
tracks_front Off front es begins tracks = tt
tracks_front (On w) front es begins tracks = record { front = front; begins = begins; follows = tracks }

-- what holds where all of it is Ok
pub all_ok : {X E A B C D : Type 0} (r : Result X E) → (A → B → C → D) → OnOk r A → OnOk r B → OnOk r C → OnOk r D
all_ok (Ok x) f a b c = f a b c
all_ok (Err e) f a b c = tt

pub each_ok : {X E A B C D F : Type 0} (r : Result X E) → (A → B → C → D → F) → OnOk r A → OnOk r B → OnOk r C → OnOk r D
    → OnOk r F
each_ok (Ok x) f a b c d = f a b c d
each_ok (Err e) f a b c d = tt

-- the sum of the own map is that of what was followed
pub own_sum : (w : Watch) (es : List Entry) → Follows w es → total_of w.own.map ≡ size_sum es
own_sum w es f = ap (λ (s : Shown). total_of s.map) f.own ∙ ap total_of (map_after (changes_of es))

-- ---- looks
pub has_looked : (c : Config) (p q : PassView) (from : ℕ) (found : Result Changes NoMemory) → q ≡ record p { turns = q.turns }
    → HasLooked p q (large_index c) from found → MayHaveLooked c p q
has_looked c p q from found same l = record { same = same; looked = inr (from, found, l) }

pub has_not_looked : (c : Config) (p : PassView) → MayHaveLooked c p p
has_not_looked c p = record { same = refl; looked = inl refl }

-- what the rounds have left stays, and so does what was seen
pub may_keep : (c : Config) (p q : PassView) (rounds : List (List ScriptView)) (results : List Results) (last : Names)
    → LooksKeep → HasReplayed c p rounds results last → MayHaveLooked c p q
    → HasReplayed c q rounds results last × (large_seen c q ≡ large_seen c p)
may_keep c p q rounds results last keep h may = by may.looked
  where
    by : (q ≡ p) ⊎ ((from : ℕ) × (found : Result Changes NoMemory) × HasLooked p q (large_index c) from found)
        → HasReplayed c q rounds results last × (large_seen c q ≡ large_seen c p)
    by (inl same) = (
      subst (λ (v : PassView). HasReplayed c v rounds results last) (sym same) h,
      ap (large_seen c) same,
    )
    by (inr l) =
        let kept = keep c p q rounds results last (large_index c) l.0 l.1 h may.same l.2 in (kept.0, kept.1 (large_index c))
