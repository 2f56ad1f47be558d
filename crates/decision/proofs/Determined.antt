-- The contracts of `decide` and `decide_within` leave no choice: two results that one allows are equal.
-- Assumes nothing.
use mathlib.Core.Path.{◌≡◌, ap}
use contract.Lifetimes.{Lfts}
use Rattle.octets.proofs.Choice.{determined}
use Rattle.mctp.proofs.Refusals.{number_injective}
use Rattle.decision.specs.declared.decision.Decided.{Decided}
use Rattle.decision.specs.declared.rules.Plan.{Plan}
use Rattle.decision.specs.declared.rules.Plan.TheVariants.{Refuse, Release, Put}
use Rattle.decision.specs.Rules.{planned}
use Rattle.decision.proofs.decision.decide.Reads as decide
use Rattle.decision.proofs.decision.decide_within.Reads as within

-- a plan is told by its number and values
planned_injective : (a b : Plan) → planned a ≡ planned b → a ≡ b
planned_injective (Refuse r) (Refuse s) e = ap Refuse (number_injective r s (cc))
planned_injective (Refuse r) (Release j s) e = cc
planned_injective (Refuse r) (Put j b g t) e = cc
planned_injective (Release i r) (Refuse s) e = cc
planned_injective (Release i r) (Release j s) e = cc (number_injective r s (cc))
planned_injective (Release i r) (Put j b g t) e = cc
planned_injective (Put i a f s) (Refuse t) e = cc
planned_injective (Put i a f s) (Release j t) e = cc
planned_injective (Put i a f s) (Put j b g t) e = cc

decided_same : (a b : Decided) → planned a.plan ≡ planned b.plan → a.receiver ≡ b.receiver → a ≡ b
decided_same a b plans receiver =
    let plan = planned_injective a.plan b.plan plans in
    λ i. record { plan = plan i; receiver = receiver i }

pub decide_determined : (κs : Lfts 1) (a r q e f : _) → decide.Post κs a r e → decide.Post κs a q f → r ≡ q
decide_determined κs a r q e f p o = decided_same r q (determined p.1 o.1) (determined p.0 o.0)

pub decide_within_determined : (κs : Lfts 1) (a r q e f : _) → within.Post κs a r e → within.Post κs a q f → r ≡ q
decide_within_determined κs a r q e f p o = decided_same r q (determined p.1 o.1) (determined p.0 o.0)

-- No call asks anything of its arguments first.
pub no_requires : ((κs : Lfts 1) (a : _) → decide.Pre κs a)
    × ((κs : Lfts 1) (a : _) → within.Pre κs a)
no_requires = ((λ κs a. tt), (λ κs a. tt))
