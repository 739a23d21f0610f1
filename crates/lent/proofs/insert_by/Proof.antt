-- `insert_by` meets its contract: the law of Own, at `insert`.
use base.Logic.{emp}
use contract.Monad.{fact_i}
use contract.Running.{tables, tables_of}
use denote.Triple.Spec.{triple_of}
use denote.Triple.Table.{entered}
use Rattle.lent.proofs.Calls.{insert_params, InsertSays, insert_reply}
use Rattle.lent.proofs.Own.{own_meets}
use Rattle.lent.proofs.insert.Symbol.{name as #lent}
use Rattle.lent.proofs.insert.Met as lent-thm
use Rattle.lent.specs.contracts.insert_by.Key.{name as #own}
use Rattle.lent.specs.contracts.insert_by as own
use Rattle.lent.proofs.insert_by.Statement as stated
use Rattle.lent.proofs.insert_by.Code as code

pub insert_by_spec : {M : Type 1} → stated.statement M
unfolding tables_of
insert_by_spec 𝓤 𝓛 𝓜 𝓡 wired =
    entered 𝓤 𝓛.H (triple_of 𝓛 own.signature (own.spec 𝓛 𝓜.mem 𝓡.returns))
    (tables 𝓤 𝓛.H 𝓜 𝓡 𝓡.env).C (tables 𝓤 𝓛.H 𝓜 𝓡 𝓡.env).Λ #own code.function (code.unfolded 𝓤 𝓛.H 𝓜 𝓡 wired)
    (own_meets insert_params insert_reply InsertSays 𝓛 (own.clauses 𝓛 𝓜.mem 𝓡.returns) (λ x z o k e. fact_i 𝓤 _ (emp 𝓤) e)
    (tables_of 𝓤 𝓛.H 𝓜 (tables 𝓤 𝓛.H 𝓜 𝓡 𝓡.env)) #lent (lent-thm.met 𝓤 𝓛 𝓜 𝓡 (code.calls-lent::insert 𝓡.env wired)))
