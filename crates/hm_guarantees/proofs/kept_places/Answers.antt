use Rattle.hm_guarantees.proofs.KeptPlaces as places
use Rattle.hm_guarantees.proofs.kept_places.Goals as goal

pub returns : goal.returns
returns c = record { places = places.kept_places; apart = places.given_apart }
