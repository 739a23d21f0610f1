-- `insert` meets its contract: the law of Thin, at the method `KBucket::insert`.
use base.Logic.{emp}
use contract.Monad.{fact_i}
use contract.Running.{tables, tables_of}
use denote.Triple.Spec.{triple_of}
use denote.Triple.Table.{entered}
use Rattle.bucket.proofs.KBucket.insert.Symbol.{name as #method}
use Rattle.bucket.proofs.KBucket.insert.Met as method-thm
use Rattle.lent.proofs.Calls.{insert_params, InsertSays, insert_reply}
use Rattle.lent.proofs.Thin.{thin_meets}
use Rattle.lent.specs.contracts.insert.Key.{name as #lent}
use Rattle.lent.specs.contracts.insert as lent
use Rattle.lent.proofs.insert.Statement as stated
use Rattle.lent.proofs.insert.Code as code

pub insert_spec : {M : Type 1} → stated.statement M
unfolding tables_of
insert_spec 𝓤 𝓛 𝓜 𝓡 wired =
    entered 𝓤 𝓛.H (triple_of 𝓛 lent.signature (lent.spec 𝓛 𝓜.mem 𝓡.returns))
    (tables 𝓤 𝓛.H 𝓜 𝓡 𝓡.env).C (tables 𝓤 𝓛.H 𝓜 𝓡 𝓡.env).Λ #lent code.function (code.unfolded 𝓤 𝓛.H 𝓜 𝓡 wired)
    (thin_meets insert_params insert_reply InsertSays 𝓛 (lent.clauses 𝓛 𝓜.mem 𝓡.returns) (λ κs x z r e. fact_i 𝓤 _ (emp 𝓤) e)
    (tables_of 𝓤 𝓛.H 𝓜 (tables 𝓤 𝓛.H 𝓜 𝓡 𝓡.env)) #method (method-thm.met 𝓤 𝓛 𝓜 𝓡 (code.calls-bucket::KBucket::insert 𝓡.env wired)))
