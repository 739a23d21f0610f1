-- One law for every function of the form
--     fn F(b: &mut KBucket, p: P, …) -> T { let step = b.G(p, …); *b = step.bucket; step.result }
-- with any number of parameters of plain data (Params) behind b, and any answer T of plain data (Reply's `step`). If the method G's contract says `Says before arguments answer after` of its reply, then so does F of its answer and the bucket behind b.
--     thin_function ps R g    the MIR of F, where g is G's name
--     Method, lent            G's contract, and F's signature
--     thin_meets              F's MIR meets the clauses tc, where they follow from `Says`
-- The walk: the borrow is opened, the bucket is copied out and passed to G, the bucket of the reply is stored, and the borrow is closed at it.
use mathlib.Core.Path.{◌≡◌, refl}
use Prim.Native.Nat.{ℕ, suc}
use mathlib.Core.List.{[], ◌∷◌, List}
use seplogic.Ra.Ura.{Ura}
use base.Fraction.{full_share}
use lib.Dec.{T as Holds}
use mir.Syntax.{Ty, Callee, Fn, named, mut, ty_ref, ty_struct, tcons, tnil, deref, field, place, copy, local, value_local, seq, assign, call, return, rv_opd}
use mir.Val.{Val, vptr, WT, has_ty}
use base.Logic.{SProp, ent, emp, via, fst∗, snd∗, ex_e, id⊢}
use base.Fml.{GName, Lft, Share, ftrue, fat, flft, fobs, fbor}
use prog.Wp.{Env, Calls, Loops, WpFn, Tables, spot_of}
use types.Logic.{Logic, sem}
use contract.Lifetimes.{Lfts}
use contract.Monad.{fact}
use types.Kit.{‵, raw, ◌⊛◌, ⋆, some, later, ◌$◌, ◌∵◌, !, qed, by, move, keep, drop, use0, use1, split, join, pick, rewrite, fsplit, fsplit3, fjoin, fjoin3, feq_i, suffices, frame, await, done}
use types.Run.{look, look_raw, init, store_raw, forget, stop, hop, fld, from, load, of_opd, and_then, assigns, land, returns, enter, alloc1, alloc0, params1, pass1, pass0, free1, free0}
use types.Part.{whole, sub, look_in}
use types.SemTy.{Body}
use sound.WpLaws.{FmC, fm_of, WpFn-mono}
use denote.RattleType.{Denots, Valss, owns}
use denote.Laws.{Is, shows}
use denote.Memory.{mem, pointee}
use denote.Builtin.{RefMutOf}
use denote.Ref.{MutRef, mut_vals, mut_Tells}
use denote.Signature.{plain}
use denote.Steps.{opens, closes, owned, peeks, heard, nothing}
use denote.Struct.Steps.{spelt}
use denote.Struct.Laws as LL
use denote.Triple.End.{all}
use denote.Triple.Statement.{Contract, Triple}
use denote.Triple.Call.{calls_at}
use denote.Triple.Clauses.{Clauses, Ended, at_exit, closing, ensured, lasts as lastsAt}
use denote.Triple.Entry.{Args, on_entry}
use denote.Triple.Spec.{Meets, triple_of}
use denote.Triple.Walked.{Stays, stay_ref, walk_of, has_of, Goes-ref, Walks, ends_at, walked, walk_Meets}
use denote.Exit.{yes}
use Rattle.bucket.specs.declared.KBucket.{KBucket}
use Rattle.bucket.specs.contracts.KBucket as K
use Rattle.bucket.proofs.KBucket.TheLaws as K'
use Rattle.lent.proofs.Params.{Plain, slots, rows, spells, tellings, vals, passed, Known, stays, lasts, fit, made, kept, all_go, moved, moved_passed, moved_known, behind, locals, copies, env_of, without, next, here, behind_all, found, allocates, passes_all, reads_all, frees_all, telling}
use Rattle.lent.proofs.Reply.{kval, IsK, Reply}

-- the MIR type of a reply
abbrev pub reply_ty : Reply → Ty
reply_ty R = ty_struct R.name (tcons K'.mir (tcons R.ty tnil))

-- the MIR: the locals are the answer, b, the parameters, the reply, a copy of the bucket, and a copy of the reply's bucket
abbrev pub thin_function : List Plain → Reply → Callee → Fn
thin_function ps R g = record {
  lifetimes = 1;
  outlives = [];
  ty_params = [];
  givens = 0;
  params = behind 1 ps;
  locals = local R.ty value_local ∷ local (ty_ref (named 0) mut (pointee (K.the_row).written)) value_local ∷ locals ps (local (reply_ty R) value_local ∷ local K'.mir value_local ∷ local K'.mir value_local ∷ []);
  body = seq (assign (place (suc (behind 2 ps)) []) (rv_opd (copy (place 1 (deref K'.mir ∷ [])))))
      (seq (call g (copy (place (suc (behind 2 ps)) []) ∷ copies 2 ps) (place (behind 2 ps) []))
      (seq (assign (place (suc (suc (behind 2 ps))) []) (rv_opd (copy (place (behind 2 ps) (field 0 ∷ [])))))
      (seq (assign (place 1 (deref K'.mir ∷ [])) (rv_opd (copy (place (suc (suc (behind 2 ps))) []))))
      (seq (assign (place 0 []) (rv_opd (copy (place (behind 2 ps) (field 1 ∷ []))))) return))));
}

abbrev pub method : List Plain → Reply → Ended
method ps R = record {
  signature = record { lifetimes = 0; outlives = []; params = plain (λ _. K.the_row) ∷ slots 0 ps; result = plain (λ _. R.row) };
  kept = (yes, all yes (slots 0 ps));
}

abbrev pub lent : List Plain → Reply → Ended
lent ps R = record {
  signature = record { lifetimes = 1; outlives = []; params = RefMutOf (0 ∷ []) tt (plain (λ _. K.the_row)) (λ κs. tt) ∷ slots 1 ps; result = plain (λ _. R.answers) };
  kept = (yes, all yes (slots 1 ps));
}

module _ (ps : List Plain) (R : Reply) (Says : KBucket → Denots (rows 0 tt ps) → R.answers.Denot → KBucket → Type 0) where
  -- what the method says of its reply
  abbrev Said : KBucket → Denots (rows 0 tt ps) → R.row.Denot → Type 0
  Said b a r = Says b a (R.answer r) (R.bucket r)

  abbrev pub method_clauses : {M : Type 1} (𝓤 : Ura M) → Clauses 𝓤 (method ps R)
  method_clauses 𝓤 κs a = record { ghost = Unit {0}; requires = λ _. emp 𝓤; ensures = λ _ r _. fact 𝓤 (Said a.0 a.1 r) }

  abbrev pub Method : {M : Type 1} {𝓤 : Ura M} (𝓛 : Logic 𝓤) → Contract 𝓤
  Method {𝓤 = 𝓤} 𝓛 = triple_of 𝓛 (method ps R).signature (closing 𝓛 (method ps R) (method_clauses 𝓤))

  abbrev stayed : Stays (lent ps R).signature.params (lent ps R).kept
  stayed = (stay_ref (0 ∷ []) tt (plain (λ _. K.the_row)), stays 1 ps)

  module _ {M : Type 1} {𝓤 : Ura M} (𝓛 : Logic 𝓤) (tc : Clauses 𝓤 (lent ps R))
      (follows : (κs : Lfts 1) (x : Args (lent ps R).signature κs) (z : (tc κs x).ghost) (r : R.row.Denot) → Said x.0.now (moved 1 κs 0 tt ps x.1) r
      → ent 𝓤 (emp 𝓤) ((tc κs x).ensures z (R.answer r) (at_exit (lent ps R) κs x (R.bucket r, lasts 1 κs ps x.1)))) where
    open 𝓛 use {H}

    module _ (κ : Lft) (q : Share) (b o : ℕ) (γ : GName) (h : KBucket) (a : Denots (rows 1 (κ, tt) ps)) (z : (tc (κ, tt) (record { ref_ptr = (b, o); ghost_name = γ; now = h }, a)).ghost) (are : Known 1 (κ, tt) ps a) where
      abbrev x : Args (lent ps R).signature (κ, tt)
      x = (record { ref_ptr = (b, o); ghost_name = γ; now = h }, a)

      abbrev at : List Val × Valss (rows 1 (κ, tt) ps)
      at = (vptr b o ∷ [], vals 1 (κ, tt) ps a)

      abbrev Post : Val → SProp 𝓤
      Post = (walk_of 𝓛 (lent ps R) stayed tc).post (((κ, tt), (q, tt), tt, x, at), z)

      -- the arguments as the method's
      abbrev args : Denots (rows 0 tt ps)
      args = moved 1 (κ, tt) 0 tt ps a

      said : (r : R.row.Denot) → ent 𝓤 (ensured 𝓛 (method ps R) (method_clauses 𝓤) tt (h, args) tt r) (fact 𝓤 (Said h args r))
      said r = ex_e 𝓤 _ (λ ws. snd∗ 𝓤 (sem 𝓛 (lastsAt (method ps R) tt (h, args) ws)) (fact 𝓤 (Said h args r)))

      exits : (r : R.row.Denot) (v : Val) → Said h args r
          → ent 𝓤 (⋆ 𝓛 (‵ (fobs γ ((K.the_row).coded.code (R.bucket r))) ∷ ‵ (fbor κ (Body (mem K.the_row) b o γ)) ∷ ‵ (flft κ q) ∷ ‵ (R.answers.own_val (R.answer r) (v ∷ [])) ∷ [])) (Post v)
      exits r v e =
          qed 𝓛 (‵ (fobs γ ((K.the_row).coded.code (R.bucket r))) ∷ ‵ (fbor κ (Body (mem K.the_row) b o γ)) ∷ ‵ (flft κ q) ∷ ‵ (R.answers.own_val (R.answer r) (v ∷ [])) ∷ []) ∵
          suffices ! _ (ends_at 𝓛 (lent ps R) stayed tc (((κ, tt), (q, tt), tt, x, at), z) v (R.answer r) (R.bucket r, lasts 1 (κ, tt) ps a) (tt, fit 1 (κ, tt) ps a)) $
          telling 𝓛 (follows (κ, tt) x z r e) $ nothing ! $ move ! (3 ∷ 0 ∷ []) $ join ! $ frame ! $
          feq_i ! (List Val) (vptr b o ∷ []) (vptr b o ∷ []) refl $ fjoin3 ! $
          use0 𝓛 (‵ (has_of (κ, tt) (slots 1 ps) (all yes (slots 1 ps)) (stays 1 ps) a (lasts 1 (κ, tt) ps a) (vals 1 (κ, tt) ps a))) (kept 1 (κ, tt) 𝓛 ps a are) $
          move ! (1 ∷ 0 ∷ []) $ fjoin ! $ frame ! $ done !

      abbrev to : (Method 𝓛).Ghost
      to = ((tt, tt, tt, (h, args), (kval h ∷ [], vals 0 tt ps args)), tt)

      goes : ent 𝓤 (sem 𝓛 ((K.the_row).own_val h (kval h ∷ []))) ((Method 𝓛).pre to)
      goes =
          qed 𝓛 (‵ ((K.the_row).own_val h (kval h ∷ [])) ∷ []) ∵ use0 𝓛 (‵ (owns (rows 0 tt ps) args (vals 0 tt ps args))) (made 0 tt 𝓛 ps args (moved_known 1 (κ, tt) 0 tt ps a are)) $
          move ! (1 ∷ 0 ∷ []) $ fjoin ! $ nothing ! $ join ! $ frame ! $ done !

      k_typed : (k : KBucket) → IsK k → Holds (has_ty K'.mir (kval k)) × WT (kval k)
      k_typed k is = ((LL.lawful K.the_type K'.the_laws 𝓛).typed k _ is).0

      module _ (C : Calls 𝓤 H) (Λ : Loops 𝓤 H) (fm : FmC 𝓤 H 𝓛.laws C) (g : Callee) (known : Triple 𝓤 (C g) (Method 𝓛)) where
        walk : ent 𝓤 (on_entry 𝓛 (lent ps R).signature (κ, tt) (q, tt) x at) (WpFn 𝓤 H C Λ (thin_function ps R g) (vptr b o ∷ passed 1 (κ, tt) ps a) Post)
        walk =
            qed 𝓛 ((‵ (flft κ q) ⊛ ‵ ftrue) ∷ ‵ (owns (MutRef (named 0) κ K.the_row ∷ rows 1 (κ, tt) ps) x at) ∷ []) ∵ split ! $ move ! (2 ∷ []) $ fsplit ! $ move ! (1 ∷ []) $ drop ! $ fsplit3 ! $ drop ! $
            -- [obs; the borrow; the token; true]
            enter ! C Λ (thin_function ps R g) (vptr b o ∷ passed 1 (κ, tt) ps a) _ $
            alloc1 ! (λ l₀. alloc1 ! (λ l₁. allocates 𝓛 ps (local (reply_ty R) value_local ∷ local K'.mir value_local ∷ local K'.mir value_local ∷ []) (λ bs. alloc1 ! (λ l₂. alloc1 ! (λ l₃. alloc1 ! (λ l₄. alloc0 ! $ params1 ! $
            pass1 ! (init ! 7 refl (tt, tt)) $ move ! (6 ∷ []) $
            (let F : Env 𝓤 H = (reply_ty R, l₂) ∷ (K'.mir, l₃) ∷ (K'.mir, l₄) ∷ [] in
            let E : Env 𝓤 H = (R.ty, l₀) ∷ (ty_ref (named 0) mut (pointee (K.the_row).written), l₁) ∷ env_of 𝓤 H ps bs F in
            let past : without 𝓤 H (behind 2 ps) E ≡ F = behind_all 𝓤 H ps bs 2 E F refl in
            let past₁ : without 𝓤 H (suc (behind 2 ps)) E ≡ (K'.mir, l₃) ∷ (K'.mir, l₄) ∷ [] = next 𝓤 H (behind 2 ps) E past in
            let at_reply : spot_of 𝓤 H E (behind 2 ps) ≡ (reply_ty R, l₂, 0) = here 𝓤 H (behind 2 ps) E past in
            let at_copy : spot_of 𝓤 H E (suc (behind 2 ps)) ≡ (K'.mir, l₃, 0) = here 𝓤 H (suc (behind 2 ps)) E past₁ in
            let at_moved : spot_of 𝓤 H E (suc (suc (behind 2 ps))) ≡ (K'.mir, l₄, 0) = here 𝓤 H (suc (suc (behind 2 ps))) E (next 𝓤 H (suc (behind 2 ps)) E past₁) in
            passes_all 𝓛 1 (κ, tt) ps bs a F are (pass0 ! $
            move ! (11 ∷ 12 ∷ 13 ∷ []) $ opens ! tt K.the_row {h = h} b o (λ vs. spelt ! K.the_row (Is K.the_row) (shows 𝓛 K.the_row) (LL.vals K.the_type K'.the_laws) (LL.tells K.the_type K'.the_laws) full_share h vs b o $
            move ! (1 ∷ []) $ peeks ! K.the_row (Is K.the_row) (shows 𝓛 K.the_row) h (kval h ∷ []) (λ is.
            -- [what the bucket owns; its cell; the open borrow; obs; auth; the parameters; the reply's bucket; …; the copy; …; the reply; …; b; …; room for the answer; …; true]
            assigns ! (of_opd ! (load ! (from ! (hop ! (look ! 12 refl) (stop !))) (look_raw ! 1 refl))) (found 𝓛 at_copy (stop !)) (init ! 8 refl (k_typed h is)) $
            use1 𝓛 (raw ((Method 𝓛).pre to)) goes $
            calls_at ! fm (Method 𝓛) known to (and_then ! (load ! (found 𝓛 at_copy (stop !)) (look ! 8 refl))
            (reads_all 𝓛 1 (κ, tt) ps bs a 2 E F refl (moved_passed 1 (κ, tt) 0 tt ps a) 5 refl)) (λ v.
            use1 𝓛 (later (some (λ (r : R.row.Denot). (‵ ftrue ⊛ ‵ (R.row.own_val r (v ∷ []))) ⊛ raw (ensured 𝓛 (method ps R) (method_clauses 𝓤) tt (h, args) tt r)))) (id⊢ 𝓤 _) $ await ! tt $ pick ! (λ r.
            split ! $ move ! (1 ∷ []) $ use1 𝓛 (raw (fact 𝓤 (Said h args r))) (said r) $ heard ! (Said h args r) (λ e. split ! $ drop ! $
            peeks ! R.row (Is R.row) (shows 𝓛 R.row) r (v ∷ []) (λ isr.
            -- [what the reply owns; the cell; the open borrow; obs; auth; the parameters; the reply's bucket; …; the copy; …; the reply; …; b; …; room for the answer; …; true]
            land ! (found 𝓛 at_reply (stop !)) (init ! 10 refl (R.typed 𝓛 r v isr)) $
            rewrite ! 10 (λ (u : Val). ‵ (fat full_share (reply_ty R) l₂ 0 u)) (R.tells r v isr) refl $
            assigns ! (of_opd ! (load ! (found 𝓛 at_reply (fld ! refl (stop !))) (look_in ! 10 (sub ! 0 refl (whole !))))) (found 𝓛 at_moved (stop !)) (init ! 6 refl (k_typed (R.bucket r) (R.is_bucket r v isr))) $
            assigns ! (of_opd ! (load ! (found 𝓛 at_moved (stop !)) (look ! 6 refl))) (from ! (hop ! (look ! 12 refl) (stop !))) (store_raw ! 1 refl (k_typed (R.bucket r) (R.is_bucket r v isr))) $
            assigns ! (of_opd ! (load ! (found 𝓛 at_reply (fld ! refl (stop !))) (look_in ! 10 (sub ! 1 refl (whole !))))) (from ! (stop !)) (init ! 14 refl (R.answer_typed 𝓛 (R.answer r) _ (R.is_answer r v isr))) $
            drop ! $ owned ! K.the_row (Is K.the_row) (LL.makes K.the_type K'.the_plain 𝓛) (R.bucket r) _ (R.is_bucket r v isr) $ move ! (1 ∷ 0 ∷ []) $ closes ! tt K.the_row (R.bucket r) (kval (R.bucket r) ∷ []) b o $
            -- [obs; the borrow; the token; the parameters; the reply's bucket; …; the copy; …; the reply; …; b; …; the answer; …; true]
            returns ! (look ! 12 refl) $ forget ! 4 refl $ forget ! 6 refl $ forget ! 8 refl $ forget ! 10 refl $ forget ! 12 refl $
            move ! (12 ∷ 13 ∷ []) $ free1 ! $ move ! (10 ∷ 11 ∷ []) $ free1 ! $ move ! (3 ∷ []) $ frees_all 𝓛 1 (κ, tt) ps bs a F
            (move ! (7 ∷ 8 ∷ []) $ free1 ! $ move ! (5 ∷ 6 ∷ []) $ free1 ! $ move ! (3 ∷ 4 ∷ []) $ free1 ! $ free0 ! $
            keep ! (0 ∷ 1 ∷ 2 ∷ []) $ owned ! R.answers (Is R.answers) (R.answer_makes 𝓛) (R.answer r) _ (R.is_answer r v isr) $ move ! (1 ∷ 2 ∷ 3 ∷ 0 ∷ []) $ by ! (exits r _ e))))))))))))))))

    module _ (𝓣 : Tables 𝓤 H) (g : Callee) (known : Triple 𝓤 (𝓣.C g) (Method 𝓛)) where
      walks : Walks 𝓛 (lent ps R) stayed (WpFn 𝓤 H 𝓣.C 𝓣.Λ (thin_function ps R g)) tc
      walks = walked 𝓛 (lent ps R) stayed tc (WpFn 𝓤 H 𝓣.C 𝓣.Λ (thin_function ps R g))
          (λ κs. (mut_vals, spells 1 κs ps)) (λ κs. (mut_Tells (named 0) κs.0 K.the_row, tellings 1 κs ps))
          (λ κs qs bounds a z are. via 𝓤 _ (fst∗ 𝓤 _ ((tc κs a).requires z)) (walk κs.0 qs.0 a.0.ref_ptr.0 a.0.ref_ptr.1 a.0.ghost_name a.0.now a.1 z are.1 𝓣.C 𝓣.Λ (fm_of 𝓤 H 𝓛.laws 𝓣) g known))

      pub thin_meets : Meets 𝓛 (lent ps R).signature (WpFn 𝓤 H 𝓣.C 𝓣.Λ (thin_function ps R g)) (closing 𝓛 (lent ps R) tc)
      thin_meets = walk_Meets 𝓛 (lent ps R) stayed (Goes-ref 𝓛 1 0 tt (plain (λ _. K.the_row)), all_go 𝓛 1 ps) tc (WpFn 𝓤 H 𝓣.C 𝓣.Λ (thin_function ps R g)) (WpFn-mono 𝓤 H 𝓛.laws 𝓣 (thin_function ps R g)) walks
