use Rattle.std.proofs.Common.{rules}
use Rattle.ieee.proofs.Operations.{fma_ieee}
use Rattle.ieee_fused.proofs.mul_add.Goals as goal

pub returns-in-Some-clause-ieee : goal.returns-in-Some-clause-ieee
returns-in-Some-clause-ieee c = search (rules, fma_ieee)

pub returns-in-None-clause-ieee : goal.returns-in-None-clause-ieee
returns-in-None-clause-ieee c = search (rules, fma_ieee)
