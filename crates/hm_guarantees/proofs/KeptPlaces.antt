-- Slots stand at the places of their region alone.
use Rattle.std.proofs.Common.{inl, inr, ⊎_elim, [], ◌∷◌}
use Rattle.std.proofs.lemmas.Bool.{cases_eq}
use Rattle.hm_model.specs.declared.entry.Call.TheVariants.{Allot}
use Rattle.hm_model.specs.declared.entry.Reply.TheVariants.{Given}
use Rattle.hm_model.specs.Machine.{Legal_split}
use Rattle.hm_sizes.specs.Shapes.{slab_of, slot_of}
use Rattle.hm_class_rules.specs.State.{start}
use Rattle.hm_class_rules.specs.Steps.{opened, step}
use Rattle.hm_class_rules.specs.Rules.{Allowed, state}
use Rattle.hm_class_rules.proofs.Legal.{picked_place, places_apart}
use Rattle.hm_guarantees.specs.KeptPlaces.{KeptPlaces, PlacesApart}
use Rattle.hm_guarantees.proofs.Parts.{allows_at}

pub kept_places : KeptPlaces
kept_places t before given a legal is =
    let allowed = (Legal_split (step t.shape) (Allowed t) start before (given ∷ []) legal).1.0 in
    let picks = (allows_at t (state t before) given (Allot is.asked is.align) (Given a is.size) allowed is.call is.reply).0 in
    (slab_of t.shape a, slot_of t.shape a, picked_place t.shape (state t before) (opened t.shape given.choices.opened given.choices.canary (state t before)) given.choices a picks)

pub given_apart : PlacesApart
given_apart t before others given other a b shape legal is other_legal other_is =
    let x = kept_places t before given a legal is in
    let y = kept_places t others other b other_legal other_is in
    ⊎_elim (λ same. inl same) (λ ne. inr (places_apart t.shape a b x.0 x.1 y.0 y.1 shape x.2 y.2 ne)) (cases_eq a b)
