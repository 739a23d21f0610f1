-- What a by-value method gives, a struct of bucket and answer, as a walk needs it: its parts, their machine values, and their laws.
--     Reply      such a struct
--     step       `Step<KBucket, T>` is one, for every answer T of plain data
use mathlib.Core.Path.{◌≡◌, ap, subst}
use mathlib.Core.List.{[], ◌∷◌, ◌++◌, List}
use seplogic.Ra.Ura.{Ura}
use lib.Dec.{T as Holds}
use mir.Syntax.{Sym, Ty, ty_struct, tcons, tnil}
use mir.Val.{Val, vstruct, vcons, vnil, WT, has_ty}
use types.Logic.{Logic}
use denote.RattleType.{RattleType}
use denote.Laws.{Is, Tells, Makes, Typed}
use denote.Param.{layout}
use denote.Param.Laws.{Laws, Told}
use denote.Shadow.{Pure, makes_shadow}
use denote.Steps.{only}
use denote.Struct.Declared.{Declared}
use denote.Struct.Laws as LL
use denote.Struct.Struct.{to_tys}
use Rattle.bucket.specs.declared.KBucket.{KBucket}
use Rattle.bucket.specs.contracts.KBucket as K
use Rattle.bucket.proofs.KBucket.TheLaws as K'
use Rattle.bucket.specs.contracts.Step as Step
use Rattle.bucket.proofs.Step.TheLaws as Step'

-- a bucket's machine value
abbrev pub kval : KBucket → Val
kval = LL.val K.the_type K'.the_laws

abbrev pub IsK : KBucket → Type 0
IsK k = Is K.the_row k (kval k ∷ [])

pub record Reply : Type 2 where
  pub row : RattleType
  pub bucket : row.Denot → KBucket
  -- the answer
  pub answers : RattleType
  pub answer : row.Denot → answers.Denot
  pub reply : KBucket → answers.Denot → row.Denot
  -- the struct's name, the answer's MIR type and its machine value
  pub name : Sym
  pub ty : Ty
  pub val : answers.Denot → Val
  pub answer_tells : Tells answers (Is answers) (λ o. val o ∷ [])
  pub answer_typed : {M : Type 1} {𝓤 : Ura M} (𝓛 : Logic 𝓤) (o : answers.Denot) (v : Val) → Is answers o (v ∷ []) → Holds (has_ty ty v) × WT v
  pub answer_makes : {M : Type 1} {𝓤 : Ura M} (𝓛 : Logic 𝓤) → Makes 𝓛 answers (Is answers)
  pub tells : (r : row.Denot) (v : Val) → Is row r (v ∷ []) → v ≡ vstruct (vcons (kval (bucket r)) (vcons (val (answer r)) vnil))
  pub typed : {M : Type 1} {𝓤 : Ura M} (𝓛 : Logic 𝓤) (r : row.Denot) (v : Val) → Is row r (v ∷ []) → Holds (has_ty (ty_struct name (tcons K'.mir (tcons ty tnil))) v) × WT v
  pub makes : {M : Type 1} {𝓤 : Ura M} (𝓛 : Logic 𝓤) → Makes 𝓛 row (Is row)
  -- what is known of the parts, and of a reply made of parts
  pub is_bucket : (r : row.Denot) (v : Val) → Is row r (v ∷ []) → IsK (bucket r)
  pub is_answer : (r : row.Denot) (v : Val) → Is row r (v ∷ []) → Is answers (answer r) (val (answer r) ∷ [])
  pub is_reply : (k : KBucket) (o : answers.Denot) → IsK k → Is answers o (val o ∷ []) → Is row (reply k o) (vstruct (vcons (kval k) (vcons (val o) vnil)) ∷ [])

-- of the answer: its laws, its machine value, and that it owns only facts, as plain data does
module _ (T : RattleType) (L : Laws T) (t : Told T) (plain : (x : T.Denot) (vs : List Val) → Pure (T.own_val x vs)) where
  abbrev S : Declared
  S = Step.the_type K.the_row T

  abbrev laws : LL.Laws S
  laws = Step'.the_laws K.the_row T K'.the_row_laws L K'.the_told t

  abbrev pub step : Reply
  step = record {
    row = Step.the_row K.the_row T;
    bucket = λ r. r.bucket;
    answers = T;
    answer = λ r. r.result;
    reply = λ k o. record { bucket = k; result = o };
    name = S.name;
    ty = layout T;
    val = t.val;
    answer_tells = t.tells;
    answer_typed = λ 𝓛 o v is. (subst (λ (τs : List Ty). Typed τs (v ∷ [])) L.one ((L.lawful 𝓛).typed o _ is)).0;
    answer_makes = λ 𝓛 o vs is. makes_shadow 𝓛 (T.own_val o vs) (plain o vs) is;
    tells = λ r v is. ap only (LL.tells S laws r _ is);
    typed = λ 𝓛 r v is. subst (λ (τs : List Ty). Holds (has_ty (ty_struct S.name (tcons K'.mir (to_tys (τs ++ [])))) v) × WT v) L.one ((LL.lawful S laws 𝓛).typed r _ is).0;
    makes = λ 𝓛. LL.makes S (Step'.the_plain K.the_row T K'.the_row_plain plain) 𝓛;
    is_bucket = λ r v is. (LL.owed S laws r _ is).0;
    is_answer = λ r v is. (LL.owed S laws r _ is).1.0;
    is_reply = λ k o is-k is-o. LL.owes S laws (record { bucket = k; result = o }) (is-k, (is-o, tt));
  }
