use Rattle.hm_sizes.proofs.Alignments.{chooses, places_aligned, pages_aligned}
use Rattle.hm_sizes.proofs.laws.aligned_laws.Goals as goal

pub returns-clause-chosen : goal.returns-clause-chosen
returns-clause-chosen c = chooses

pub returns-clause-places : goal.returns-clause-places
returns-clause-places c = places_aligned

pub returns-clause-pages : goal.returns-clause-pages
returns-clause-pages c = pages_aligned
