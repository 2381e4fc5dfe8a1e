use Rattle.hm_large_rules.proofs.Legal.{prefixes, one_more, one_less}
use Rattle.hm_large_rules.proofs.legal_prefixes.Goals as goal

pub returns : goal.returns
returns c = record { prefixes = prefixes; one_more = one_more; one_less = one_less }
