use Rattle.hm_class_rules.proofs.Delay as slots
use Rattle.hm_large_rules.proofs.Delay as blocks
use Rattle.hm_heap.specs.Lawful.{class_terms, large_terms}
use Rattle.hm_heap.proofs.laws.delayed_blocks.Goals as goal

pub returns-clause-slots : goal.returns-clause-slots
returns-clause-slots c o before middle after f g a lawful lt freed given = slots.delays (class_terms o) before middle after f g a (lawful.class lt).legal freed given

pub returns-clause-blocks : goal.returns-clause-blocks
returns-clause-blocks c o before middle after f g a b asked guard x lawful is freed block quarantined given meets =
    blocks.delays (large_terms o) before middle after f g a b asked guard x (lawful.large is).legal freed block quarantined given meets
