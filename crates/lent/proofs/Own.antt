-- One law for every function of the form
--     fn F_by(mut b: KBucket, p: P, …) -> Step<KBucket, T> { let result = F(&mut b, p, …); Step { bucket: b, result } }
-- with any number of parameters of plain data (Params) behind b, and any answer T of plain data (Reply's `step`): a bucket of the function's own is lent to F. If F's contract says `Says before arguments answer after`, then F_by gives a reply of such an answer and bucket.
--     own_function ps R g    the MIR of F_by, where g is F's name
--     Lent, own              F's contract, and F_by's signature
--     own_meets              F_by's MIR meets the clauses oc, where they follow from `Says`
-- The walk: the local bucket is lent for a lifetime that is made for the call, and is taken back at the last value that F says.
use mathlib.Core.Path.{◌≡◌, refl, ap, subst}
use Prim.Native.Nat.{ℕ, suc}
use mathlib.Core.List.{[], ◌∷◌, List}
use seplogic.Ra.Ura.{Ura}
use base.Fraction.{full_share}
use lib.Dec.{T as Holds}
use mir.Syntax.{Ty, Callee, Fn, named, erased, mut, ty_ref, place, copy, local, value_local, memory_slot, seq, assign, call, return, rv_opd, addr_of, aggregate}
use mir.Val.{Val, vptr, vstruct, vcons, vnil, WT, has_ty}
use base.Logic.{SProp, ent, sep, emp, guard, via, fst∗, id⊢}
use base.Fml.{GName, ftrue, fsep, fat, flft, flent}
use prog.Wp.{Env, Calls, Loops, WpFn, Tables, spot_of}
use types.Logic.{Logic, sem}
use contract.Monad.{fact}
use types.Kit.{‵, raw, given, ◌⊛◌, some, later, ◌$◌, ◌∵◌, !, qed, by, move, keep, drop, use0, use1, use2, use3, split, join, pick, learn, check, rewrite, fsplit, fjoin, fpick, fpack, suffices, frame, await, done}
use types.Run.{look, init, forget, stop, from, load, addr, of_opd, and_then, no_more, assigns, land, returns, enter, alloc1, alloc0, params1, pass1, pass0, free1, free0}
use types.Part.{agg}
use types.SemTy.{Body}
use types.Tokens.{lft_new, lft_end}
use sound.WpLaws.{FmC, fm_of, WpFn-mono}
use denote.RattleType.{Denots, owns}
use denote.Laws.{Is, shows}
use denote.Memory.{mem, cell_at, part_of, pointee}
use denote.Ref.{MutBor, MutRef}
use denote.Lend.{lends_ref, ref_back}
use denote.Signature.{plain}
use denote.Steps.{only, owned, peeks, heard, nothing}
use denote.Struct.Steps.{spelt}
use denote.Struct.Laws as LL
use denote.Triple.End.{all}
use denote.Triple.Statement.{Contract, Triple}
use denote.Triple.Call.{calls_at}
use denote.Triple.Clauses.{Clauses, Ended, Lasts, at_exit, closing, ensured, lasts as lastsAt}
use denote.Triple.Entry.{Args, on_entry}
use denote.Triple.Spec.{Meets, triple_of}
use denote.Triple.Walked.{has_of, walk_of, Walks, ends_at, walked, walk_Meets}
use denote.Exit.{yes}
use Rattle.bucket.specs.declared.KBucket.{KBucket}
use Rattle.bucket.specs.contracts.KBucket as K
use Rattle.bucket.proofs.KBucket.TheLaws as K'
use Rattle.lent.proofs.Params.{Plain, struct, slots, rows, spells, tellings, vals, passed, Known, stays, lasts, fit, made, kept, all_go, moved, moved_passed, moved_known, moved_back, behind, locals, copies, env_of, without, next, here, behind_all, found, allocates, passes_all, reads_all, frees_all, telling}
use Rattle.lent.proofs.Reply.{kval, IsK, Reply}
use Rattle.lent.proofs.Thin.{reply_ty, lent}

abbrev borrow_ty : Ty
borrow_ty = ty_ref erased mut (pointee (K.the_row).written)

-- the MIR: the locals are the reply, b, the parameters, the bucket that is lent, the answer, the borrow, and a copy of the bucket
abbrev pub own_function : List Plain → Reply → Callee → Fn
own_function ps R g = record {
  lifetimes = 0;
  outlives = [];
  ty_params = [];
  givens = 0;
  params = behind 1 ps;
  locals = local (reply_ty R) value_local ∷ local K'.mir value_local ∷ locals ps (local K'.mir memory_slot ∷ local R.ty value_local ∷ local borrow_ty value_local ∷ local K'.mir value_local ∷ []);
  body = seq (assign (place (behind 2 ps) []) (rv_opd (copy (place 1 []))))
      (seq (assign (place (suc (suc (behind 2 ps))) []) (addr_of (place (behind 2 ps) [])))
      (seq (call g (copy (place (suc (suc (behind 2 ps))) []) ∷ copies 2 ps) (place (suc (behind 2 ps)) []))
      (seq (assign (place (suc (suc (suc (behind 2 ps)))) []) (rv_opd (copy (place (behind 2 ps) []))))
      (seq (assign (place 0 []) (aggregate (copy (place (suc (suc (suc (behind 2 ps)))) []) ∷ copy (place (suc (behind 2 ps)) []) ∷ []))) return))));
}

-- a bucket by value
abbrev bucket : Plain
bucket = struct K.the_type K'.the_laws K'.the_plain (λ x. tt) (λ x f. refl)

abbrev pub own : List Plain → Reply → Ended
own ps R = record {
  signature = record { lifetimes = 0; outlives = []; params = slots 0 (bucket ∷ ps); result = plain (λ _. R.row) };
  kept = all yes (slots 0 (bucket ∷ ps));
}

module _ {M : Type 1} {𝓤 : Ura M} (𝓛 : Logic 𝓤) where
  k_typed : (k : KBucket) → IsK k → Holds (has_ty K'.mir (kval k)) × WT (kval k)
  k_typed k is = ((LL.lawful K.the_type K'.the_laws 𝓛).typed k _ is).0

  -- a bucket in a local, as what is lent, and back
  lies_in : (k : KBucket) (l : ℕ) → IsK k → ent 𝓤 (sem 𝓛 (fat full_share K'.mir l 0 (kval k))) (sem 𝓛 ((mem K.the_row).own_at k l 0))
  unfolding part_of
  lies_in k l is =
      qed 𝓛 (‵ (fat full_share K'.mir l 0 (kval k)) ∷ []) ∵ use1 𝓛 (‵ (cell_at full_share (K.the_row).mir (kval k ∷ []) l 0)) (𝓛.laws.at_raw full_share K'.mir l 0 (kval k)) $
      owned ! K.the_row (Is K.the_row) (LL.makes K.the_type K'.the_plain 𝓛) k (kval k ∷ []) is $ move ! (1 ∷ 0 ∷ []) $ fjoin ! $
      fpack ! (List Val) (λ us. fsep (cell_at full_share (K.the_row).mir us l 0) ((K.the_row).own_val k us)) (kval k ∷ []) $ done !

  lies_out : (k : KBucket) (l : ℕ) → ent 𝓤 (sem 𝓛 ((mem K.the_row).own_at k l 0)) (guard 𝓤 (IsK k) (sem 𝓛 (fat full_share K'.mir l 0 (kval k))))
  unfolding part_of
  lies_out k l =
      qed 𝓛 (‵ ((mem K.the_row).own_at k l 0) ∷ []) ∵ fpick ! (λ vs. fsplit ! $
      spelt ! K.the_row (Is K.the_row) (shows 𝓛 K.the_row) (LL.vals K.the_type K'.the_laws) (LL.tells K.the_type K'.the_laws) full_share k vs l 0 $ move ! (1 ∷ []) $
      peeks ! K.the_row (Is K.the_row) (shows 𝓛 K.the_row) k (kval k ∷ []) (λ is. drop ! $ use1 𝓛 (‵ (fat full_share K'.mir l 0 (kval k))) (𝓛.laws.raw_at full_share K'.mir l 0 (kval k)) $ check ! is $ done !))

module _ (ps : List Plain) (R : Reply) (Says : KBucket → Denots (rows 0 tt ps) → R.answers.Denot → KBucket → Type 0) where
  abbrev pub lent_clauses : {M : Type 1} (𝓤 : Ura M) → Clauses 𝓤 (lent ps R)
  lent_clauses 𝓤 κs x = record { ghost = Unit {0}; requires = λ _. emp 𝓤; ensures = λ _ r e. fact 𝓤 (Says x.0.now (moved 1 κs 0 tt ps x.1) r e.0.now) }

  abbrev pub Lent : {M : Type 1} {𝓤 : Ura M} (𝓛 : Logic 𝓤) → Contract 𝓤
  Lent {𝓤 = 𝓤} 𝓛 = triple_of 𝓛 (lent ps R).signature (closing 𝓛 (lent ps R) (lent_clauses 𝓤))

  module _ {M : Type 1} {𝓤 : Ura M} (𝓛 : Logic 𝓤) (oc : Clauses 𝓤 (own ps R))
      (follows : (x : Args (own ps R).signature tt) (z : (oc tt x).ghost) (o : R.answers.Denot) (k : KBucket) → Says x.0 x.1 o k
      → ent 𝓤 (emp 𝓤) ((oc tt x).ensures z (R.reply k o) (at_exit (own ps R) tt x (lasts 0 tt (bucket ∷ ps) x)))) where
    open 𝓛 use {H, A}

    module _ (h : KBucket) (a : Denots (rows 0 tt ps)) (z : (oc tt (h, a)).ghost) (are : Known 0 tt (bucket ∷ ps) (h, a)) where
      abbrev Post : Val → SProp 𝓤
      Post = (walk_of 𝓛 (own ps R) (stays 0 (bucket ∷ ps)) oc).post ((tt, tt, tt, (h, a), vals 0 tt (bucket ∷ ps) (h, a)), z)

      abbrev rval : KBucket → R.answers.Denot → Val
      rval k r = vstruct (vcons (kval k) (vcons (R.val r) vnil))

      exits : (k : KBucket) (r : R.answers.Denot) → IsK k → Is R.answers r (R.val r ∷ []) → Says h a r k → ent 𝓤 (emp 𝓤) (Post (rval k r))
      exits k r is-k is-r e =
          qed 𝓛 [] ∵ suffices ! _ (ends_at 𝓛 (own ps R) (stays 0 (bucket ∷ ps)) oc ((tt, tt, tt, (h, a), vals 0 tt (bucket ∷ ps) (h, a)), z) (rval k r) (R.reply k r) (lasts 0 tt (bucket ∷ ps) (h, a)) (fit 0 tt (bucket ∷ ps) (h, a))) $
          telling 𝓛 (follows (h, a) z r k e) $ owned ! R.row (Is R.row) (R.makes 𝓛) (R.reply k r) _ (R.is_reply k r is-k is-r) $
          use0 𝓛 (‵ (has_of tt (slots 0 (bucket ∷ ps)) (all yes (slots 0 (bucket ∷ ps))) (stays 0 (bucket ∷ ps)) (h, a) (lasts 0 tt (bucket ∷ ps) (h, a)) (vals 0 tt (bucket ∷ ps) (h, a)))) (kept 0 tt 𝓛 (bucket ∷ ps) (h, a) are) $ nothing ! $ done !

      -- what F's triple binds outside: the bucket at l lent for ν under γ
      abbrev loan : ℕ → GName → MutBor KBucket
      loan l γ = record { ref_ptr = (l, 0); ghost_name = γ; now = h }

      abbrev args : (ν : ℕ) → Denots (rows 1 (ν ∷ [], tt) ps)
      args ν = moved 0 tt 1 (ν ∷ [], tt) ps a

      abbrev to : ℕ → ℕ → GName → (Lent 𝓛).Ghost
      to l ν γ = (((ν ∷ [], tt), (full_share, tt), tt, (loan l γ, args ν), (vptr l 0 ∷ [], vals 1 (ν ∷ [], tt) ps (args ν))), tt)

      goes : (l ν : ℕ) (γ : GName) → ent 𝓤 (sep 𝓤 (A.lft (ν ∷ []) full_share) (sem 𝓛 ((MutRef (named 0) (ν ∷ []) K.the_row).own_val (loan l γ) (vptr l 0 ∷ [])))) ((Lent 𝓛).pre (to l ν γ))
      goes l ν γ =
          qed 𝓛 (‵ (flft (ν ∷ []) full_share) ∷ ‵ ((MutRef (named 0) (ν ∷ []) K.the_row).own_val (loan l γ) (vptr l 0 ∷ [])) ∷ []) ∵ move ! (1 ∷ []) $
          use0 𝓛 (‵ (owns (rows 1 (ν ∷ [], tt) ps) (args ν) (vals 1 (ν ∷ [], tt) ps (args ν)))) (made 1 (ν ∷ [], tt) 𝓛 ps (args ν) (moved_known 0 tt 1 (ν ∷ [], tt) ps a are.1)) $
          move ! (1 ∷ 0 ∷ []) $ fjoin ! $ nothing ! $ move ! (2 ∷ 0 ∷ []) $ join ! $ join ! $ frame ! $ done !

      module _ (C : Calls 𝓤 H) (Λ : Loops 𝓤 H) (fm : FmC 𝓤 H 𝓛.laws C) (g : Callee) (known : Triple 𝓤 (C g) (Lent 𝓛)) where
        walk : ent 𝓤 (on_entry 𝓛 (own ps R).signature tt tt (h, a) (vals 0 tt (bucket ∷ ps) (h, a))) (WpFn 𝓤 H C Λ (own_function ps R g) (passed 0 tt (bucket ∷ ps) (h, a)) Post)
        walk =
            qed 𝓛 (raw (on_entry 𝓛 (own ps R).signature tt tt (h, a) (vals 0 tt (bucket ∷ ps) (h, a))) ∷ []) ∵ drop ! $ enter ! C Λ (own_function ps R g) (passed 0 tt (bucket ∷ ps) (h, a)) _ $
            alloc1 ! (λ l₀. alloc1 ! (λ l₁. allocates 𝓛 ps (local K'.mir memory_slot ∷ local R.ty value_local ∷ local borrow_ty value_local ∷ local K'.mir value_local ∷ []) (λ bs.
            alloc1 ! (λ l₂. alloc1 ! (λ l₃. alloc1 ! (λ l₄. alloc1 ! (λ l₅. alloc0 ! $ params1 ! $
            (let F : Env 𝓤 H = (K'.mir, l₂) ∷ (R.ty, l₃) ∷ (borrow_ty, l₄) ∷ (K'.mir, l₅) ∷ [] in
            let E : Env 𝓤 H = (reply_ty R, l₀) ∷ (K'.mir, l₁) ∷ env_of 𝓤 H ps bs F in
            let i : ℕ = behind 2 ps in
            let past : without 𝓤 H i E ≡ F = behind_all 𝓤 H ps bs 2 E F refl in
            let past₁ : without 𝓤 H (suc i) E ≡ (R.ty, l₃) ∷ (borrow_ty, l₄) ∷ (K'.mir, l₅) ∷ [] = next 𝓤 H i E past in
            let past₂ : without 𝓤 H (suc (suc i)) E ≡ (borrow_ty, l₄) ∷ (K'.mir, l₅) ∷ [] = next 𝓤 H (suc i) E past₁ in
            let at_lent : spot_of 𝓤 H E i ≡ (K'.mir, l₂, 0) = here 𝓤 H i E past in
            let at_answer : spot_of 𝓤 H E (suc i) ≡ (R.ty, l₃, 0) = here 𝓤 H (suc i) E past₁ in
            let at_borrow : spot_of 𝓤 H E (suc (suc i)) ≡ (borrow_ty, l₄, 0) = here 𝓤 H (suc (suc i)) E past₂ in
            let at_copy : spot_of 𝓤 H E (suc (suc (suc i))) ≡ (K'.mir, l₅, 0) = here 𝓤 H (suc (suc (suc i))) E (next 𝓤 H (suc (suc i)) E past₂) in
            pass1 ! (init ! 9 refl (k_typed 𝓛 h are.0)) $ move ! (8 ∷ []) $ passes_all 𝓛 0 tt ps bs a F are.1 (pass0 ! $
            -- [the parameters; the copy; …; the borrow; …; the answer; …; the lent bucket; …; b; …; room for the reply; …]
            assigns ! (of_opd ! (load ! (from ! (stop !)) (look ! 9 refl))) (found 𝓛 at_lent (stop !)) (init ! 7 refl (k_typed 𝓛 h are.0)) $
            assigns ! (addr ! (found 𝓛 at_lent (stop !))) (found 𝓛 at_borrow (stop !)) (init ! 3 refl (tt, tt)) $
            -- the local bucket is lent, for a lifetime ν that is made here
            move ! (7 ∷ []) $ use1 𝓛 (‵ ((mem K.the_row).own_at h l₂ 0)) (lies_in 𝓛 h l₂ are.0) $ lft_new ! tt (λ ν. move ! (1 ∷ []) $
            use1 𝓛 (later (some (λ (γ : GName). ‵ ((MutRef (named 0) (ν ∷ []) K.the_row).own_val (loan l₂ γ) (vptr l₂ 0 ∷ [])) ⊛ ‵ (flent (ν ∷ []) (Body (mem K.the_row) l₂ 0 γ))))) (lends_ref 𝓛 K.the_row (named 0) (ν ∷ []) h l₂ 0) $ await ! tt $ pick ! (λ γ. split ! $
            move ! (2 ∷ 0 ∷ []) $ use2 𝓛 (raw ((Lent 𝓛).pre (to l₂ ν γ))) (goes l₂ ν γ) $
            -- [what F asks; the lender's part; the parameters; the copy; …; the borrow; …; the answer; …; what frees the lent bucket; b; …; room for the reply; …]
            calls_at ! fm (Lent 𝓛) known (to l₂ ν γ) (and_then ! (load ! (found 𝓛 at_borrow (stop !)) (look ! 5 refl))
            (reads_all 𝓛 0 tt ps bs a 2 E F refl (moved_passed 0 tt 1 (ν ∷ [], tt) ps a) 2 refl)) (λ v.
            use1 𝓛 (later (some (λ (r : R.answers.Denot). ((‵ (flft (ν ∷ []) full_share) ⊛ ‵ ftrue) ⊛ ‵ (R.answers.own_val r (v ∷ []))) ⊛ raw (ensured 𝓛 (lent ps R) (lent_clauses 𝓤) (ν ∷ [], tt) (loan l₂ γ, args ν) tt r)))) (id⊢ 𝓤 _) $ await ! tt $ pick ! (λ r.
            split ! $ move ! (1 ∷ []) $ use1 𝓛 (some (λ (zs : Lasts (lent ps R) (ν ∷ [], tt) (loan l₂ γ, args ν)). ‵ (lastsAt (lent ps R) (ν ∷ [], tt) (loan l₂ γ, args ν) zs) ⊛ raw (fact 𝓤 (Says h (moved 1 (ν ∷ [], tt) 0 tt ps (args ν)) r zs.0)))) (id⊢ 𝓤 _) $ pick ! (λ zs.
            split ! $ move ! (1 ∷ []) $ heard ! (Says h (moved 1 (ν ∷ [], tt) 0 tt ps (args ν)) r zs.0) (λ e. fsplit ! $ move ! (2 ∷ []) $ split ! $ move ! (1 ∷ []) $ peeks ! R.answers (Is R.answers) (shows 𝓛 R.answers) r (v ∷ []) (λ is.
            -- [the answer; the token; what is said of the last value; …; the lender's part; the parameters; the copy; …; the borrow; …; room for the answer; …]
            land ! (found 𝓛 at_answer (stop !)) (init ! 10 refl (R.answer_typed 𝓛 r v is)) $
            rewrite ! 10 (λ (u : Val). ‵ (fat full_share R.ty l₃ 0 u)) (ap only (R.answer_tells r _ is)) refl $
            -- the lifetime is ended, and the bucket is the function's own again
            drop ! $ split ! $ lft_end ! tt $ move ! (2 ∷ []) $ fsplit ! $ move ! (1 ∷ []) $ drop ! $ move ! (1 ∷ 4 ∷ 0 ∷ []) $ use3 𝓛 (later (‵ ((mem K.the_row).own_at zs.0 l₂ 0))) (ref_back 𝓛 K.the_row (ν ∷ []) γ zs.0 l₂ 0) $ await ! tt $
            use1 𝓛 (given (IsK zs.0) (‵ (fat full_share K'.mir l₂ 0 (kval zs.0)))) (lies_out 𝓛 zs.0 l₂) $ learn ! (λ is-k.
            -- [the lent bucket; …; …; the parameters; the copy; …; the borrow; …; the answer; …; what frees the lent bucket; b; …; room for the reply; …]
            assigns ! (of_opd ! (load ! (found 𝓛 at_lent (stop !)) (look ! 0 refl))) (found 𝓛 at_copy (stop !)) (init ! 4 refl (k_typed 𝓛 zs.0 is-k)) $
            assigns ! (agg ! (and_then ! (load ! (found 𝓛 at_copy (stop !)) (look ! 4 refl)) (and_then ! (load ! (found 𝓛 at_answer (stop !)) (look ! 8 refl)) (no_more !)))) (from ! (stop !)) (init ! 13 refl (R.typed 𝓛 (R.reply zs.0 r) _ (R.is_reply zs.0 r is-k (is_answer r v is)))) $
            returns ! (look ! 13 refl) $ forget ! 0 refl $ forget ! 4 refl $ forget ! 6 refl $ forget ! 8 refl $ forget ! 11 refl $ forget ! 13 refl $
            move ! (13 ∷ 14 ∷ []) $ free1 ! $ move ! (11 ∷ 12 ∷ []) $ free1 ! $ move ! (3 ∷ []) $ frees_all 𝓛 0 tt ps bs a F
            (move ! (0 ∷ 9 ∷ []) $ free1 ! $ move ! (6 ∷ 7 ∷ []) $ free1 ! $ move ! (4 ∷ 5 ∷ []) $ free1 ! $ move ! (2 ∷ 3 ∷ []) $ free1 ! $ free0 ! $
            keep ! [] $ by ! (exits zs.0 r is-k (is_answer r v is) (subst (λ (c : Denots (rows 0 tt ps)). Says h c r zs.0) (moved_back 0 tt 1 (ν ∷ [], tt) ps a) e))))))))))))))))))))
          where
            is_answer : (r : R.answers.Denot) (v : Val) → Is R.answers r (v ∷ []) → Is R.answers r (R.val r ∷ [])
            is_answer r v is = subst (Is R.answers r) (R.answer_tells r _ is) is

    module _ (𝓣 : Tables 𝓤 H) (g : Callee) (known : Triple 𝓤 (𝓣.C g) (Lent 𝓛)) where
      walks : Walks 𝓛 (own ps R) (stays 0 (bucket ∷ ps)) (WpFn 𝓤 H 𝓣.C 𝓣.Λ (own_function ps R g)) oc
      walks = walked 𝓛 (own ps R) (stays 0 (bucket ∷ ps)) oc (WpFn 𝓤 H 𝓣.C 𝓣.Λ (own_function ps R g))
          (λ κs. spells 0 κs (bucket ∷ ps)) (λ κs. tellings 0 κs (bucket ∷ ps))
          (λ κs qs bounds x z are. via 𝓤 _ (fst∗ 𝓤 _ ((oc κs x).requires z)) (walk x.0 x.1 z are 𝓣.C 𝓣.Λ (fm_of 𝓤 H 𝓛.laws 𝓣) g known))

      pub own_meets : Meets 𝓛 (own ps R).signature (WpFn 𝓤 H 𝓣.C 𝓣.Λ (own_function ps R g)) (closing 𝓛 (own ps R) oc)
      own_meets = walk_Meets 𝓛 (own ps R) (stays 0 (bucket ∷ ps)) (all_go 𝓛 0 (bucket ∷ ps)) oc (WpFn 𝓤 H 𝓣.C 𝓣.Λ (own_function ps R g)) (WpFn-mono 𝓤 H 𝓛.laws 𝓣 (own_function ps R g)) walks
