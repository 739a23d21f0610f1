-- The two calls on a lent bucket: their parameters behind the bucket, what their methods give, and what their contracts say of the bucket
-- before, the arguments, the answer and the bucket after.
use mathlib.Core.Path.{◌≡◌, refl}
use mathlib.Core.List.{[], ◌∷◌, List}
use mir.Syntax.{w8, w64}
use denote.RattleType.{RattleType, Denots}
use Rattle.std.specs.contracts.result.Result as Result
use Rattle.std.proofs.result.Result.TheLaws as Result'
use Rattle.key.specs.contracts.Key as Key
use Rattle.key.proofs.Key.TheLaws as Key'
use Rattle.node.specs.Refusal.{reply_of}
use Rattle.node.specs.contracts.Node as Node
use Rattle.node.proofs.Node.TheLaws as Node'
use Rattle.node.specs.contracts.Refusal as Refusal
use Rattle.node.proofs.Refusal.TheLaws as Refusal'
use Rattle.bucket.specs.declared.KBucket.{KBucket}
use Rattle.bucket.specs.Calls.{insert_result_of, update_result_of, insert_call, update_status_call}
use Rattle.bucket.specs.contracts.InsertResult as InsertResult
use Rattle.bucket.proofs.InsertResult.TheLaws as InsertResult'
use Rattle.bucket.specs.contracts.UpdateResult as UpdateResult
use Rattle.bucket.proofs.UpdateResult.TheLaws as UpdateResult'
use Rattle.lent.proofs.Params.{Plain, uint, struct, rows}
use Rattle.lent.proofs.Reply.{Reply, step}

-- insert: node, time
abbrev pub insert_params : List Plain
insert_params = struct Node.the_type Node'.the_laws Node'.the_plain (λ x. tt) (λ x f. refl) ∷ uint w64 ∷ []

-- Result<InsertResult, Refusal>
abbrev pub InsertAnswer : RattleType
InsertAnswer = Result.the_row InsertResult.the_row Refusal.the_row

abbrev pub insert_reply : Reply
insert_reply = step InsertAnswer
    (Result'.the_row_laws InsertResult.the_row Refusal.the_row InsertResult'.the_row_laws Refusal'.the_row_laws)
    (Result'.the_told InsertResult.the_row Refusal.the_row InsertResult'.the_row_laws Refusal'.the_row_laws InsertResult'.the_told Refusal'.the_told)
    (Result'.the_row_plain InsertResult.the_row Refusal.the_row InsertResult'.the_row_plain Refusal'.the_row_plain)

abbrev pub InsertSays : KBucket → Denots (rows 0 tt insert_params) → InsertAnswer.Denot → KBucket → Type 0
InsertSays b a r c = insert_call b a.0 a.1.0 ≡ (reply_of insert_result_of r, c)

-- update_status: key, state, direction
abbrev pub update_status_params : List Plain
update_status_params = struct Key.the_type Key'.the_laws Key'.the_plain (λ x. tt) (λ x f. refl) ∷ uint w8 ∷ uint w8 ∷ []

-- Result<UpdateResult, Refusal>
abbrev pub UpdateAnswer : RattleType
UpdateAnswer = Result.the_row UpdateResult.the_row Refusal.the_row

abbrev pub update_reply : Reply
update_reply = step UpdateAnswer
    (Result'.the_row_laws UpdateResult.the_row Refusal.the_row UpdateResult'.the_row_laws Refusal'.the_row_laws)
    (Result'.the_told UpdateResult.the_row Refusal.the_row UpdateResult'.the_row_laws Refusal'.the_row_laws UpdateResult'.the_told Refusal'.the_told)
    (Result'.the_row_plain UpdateResult.the_row Refusal.the_row UpdateResult'.the_row_plain Refusal'.the_row_plain)

abbrev pub UpdateStatusSays : KBucket → Denots (rows 0 tt update_status_params) → UpdateAnswer.Denot → KBucket → Type 0
UpdateStatusSays b a r c = update_status_call b a.0 a.1.0 a.1.1.0 ≡ (reply_of update_result_of r, c)
