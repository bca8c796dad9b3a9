-- `catalogue::head_good`: the kind and six leads.
use Rattle.catalogue.proofs.Laws.{head_tests}
use Rattle.catalogue.proofs.head_good.Goals as goal

pub returns : goal.returns
returns c =
    head_tests c.args.m.now _ _ _ _ _ _ c.lead_good.ensures c.lead_good-2.ensures c.lead_good-3.ensures c.lead_good-4.ensures c.lead_good-5.ensures c.lead_good-6.ensures
