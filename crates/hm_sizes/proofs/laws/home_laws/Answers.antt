use Rattle.hm_sizes.proofs.Ranges.{home_in, slab_in, place_in}
use Rattle.hm_sizes.specs.Homes.{region_of}
use Rattle.hm_sizes.proofs.laws.home_laws.Goals as goal

pub returns-clause-regions : goal.returns-clause-regions
returns-clause-regions c config region a valid h = home_in config region a h

pub returns-clause-slabs : goal.returns-clause-slabs
returns-clause-slabs c config arena class gap n a valid arena_below class_below gap_most limit least less =
    home_in config (region_of arena class.0) a (slab_in config arena class gap n a arena_below class_below gap_most limit least less)

pub returns-clause-places : goal.returns-clause-places
returns-clause-places c config arena class gap a valid arena_below class_below gap_most place =
    home_in config (region_of arena class.0) a (place_in config arena class gap a arena_below class_below gap_most place)
