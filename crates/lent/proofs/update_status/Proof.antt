-- `update_status` meets its contract: the law of Thin, at the method `KBucket::update_status`.
use base.Logic.{emp}
use contract.Monad.{fact_i}
use contract.Running.{tables, tables_of}
use denote.Triple.Spec.{triple_of}
use denote.Triple.Table.{entered}
use Rattle.bucket.proofs.KBucket.update_status.Symbol.{name as #method}
use Rattle.bucket.proofs.KBucket.update_status.Met as method-thm
use Rattle.lent.proofs.Calls.{update_status_params, UpdateStatusSays, update_reply}
use Rattle.lent.proofs.Thin.{thin_meets}
use Rattle.lent.specs.contracts.update_status.Key.{name as #lent}
use Rattle.lent.specs.contracts.update_status as lent
use Rattle.lent.proofs.update_status.Statement as stated
use Rattle.lent.proofs.update_status.Code as code

pub update_status_spec : {M : Type 1} → stated.statement M
unfolding tables_of
update_status_spec 𝓤 𝓛 𝓜 𝓡 wired =
    entered 𝓤 𝓛.H (triple_of 𝓛 lent.signature (lent.spec 𝓛 𝓜.mem 𝓡.returns))
    (tables 𝓤 𝓛.H 𝓜 𝓡 𝓡.env).C (tables 𝓤 𝓛.H 𝓜 𝓡 𝓡.env).Λ #lent code.function (code.unfolded 𝓤 𝓛.H 𝓜 𝓡 wired)
    (thin_meets update_status_params update_reply UpdateStatusSays 𝓛 (lent.clauses 𝓛 𝓜.mem 𝓡.returns) (λ κs x z r e. fact_i 𝓤 _ (emp 𝓤) e)
    (tables_of 𝓤 𝓛.H 𝓜 (tables 𝓤 𝓛.H 𝓜 𝓡 𝓡.env)) #method (method-thm.met 𝓤 𝓛 𝓜 𝓡 (code.calls-bucket::KBucket::update_status 𝓡.env wired)))
