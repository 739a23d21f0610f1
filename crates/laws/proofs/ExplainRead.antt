-- A reader of lines (02, slip 1) gives the explanation back, so that two different explanations never share a line.
use Prim.Native.Nat.{ℕ, suc, ◌+◌, ◌-◌, ◌*◌, ◌/◌, ◌%◌, ◌^◌, ◌<◌}
use native.Mathlib.Nat.{pow-succ'}
use native.Mathlib.Omega.{arith}
use mathlib.Core.Path.{◌≡◌, refl, sym, ap, subst, ◌∙◌}
use mathlib.Core.Bool.{Bool, true, false, cond, not, ◌||◌}
use mathlib.Core.List.{List, [], ◌∷◌, ◌++◌, map, append_assoc}
use lib.ListN.{length}
use lib.Dec.{eqb, ltb}
use borrow.Author.Tests.{ltb-true, lt-ltb, le-ltb}
use Rattle.model.specs.Base.{every, joined}
use Rattle.model.specs.Bytes.{number, bytes, Bytes}
use Rattle.model.specs.Result.{FailureReason}
use Rattle.model.specs.Sizes.{key_size}
use Rattle.model.specs.Fits.{All}
use Rattle.model.specs.Numbers.{same_numbers}
use Rattle.model.specs.Explain.{Told, Reason, Explanation, space, line_feed, digit, digits, key_text, failure_text, flag_text, told_text, reason_keys, line}
use Rattle.laws.proofs.Tests.{cases, split, clash, and_left, and_right}
use Rattle.laws.proofs.Bytes.{number_there, Bytes_bytes}
use Rattle.laws.proofs.ExplainLine.{is_mark, is_word, text, told_words, reason_words, words, line_spaced, are_words}

abbrev onto : ℕ → List (List ℕ) → List (List ℕ)
onto b [] = (b ∷ []) ∷ []
onto b (w ∷ ws) = (b ∷ w) ∷ ws

-- the words up to the first line feed
abbrev pub words_in : List ℕ → List (List ℕ)
words_in [] = [] ∷ []
words_in (b ∷ l) = cond (eqb b line_feed) ([] ∷ []) (cond (eqb b space) ([] ∷ words_in l) (onto b (words_in l)))

abbrev first_of : List (List ℕ) → List ℕ
first_of [] = []
first_of (w ∷ ws) = w

abbrev rest_of : List (List ℕ) → List (List ℕ)
rest_of [] = []
rest_of (w ∷ ws) = ws

-- the number of a digit, and the number that digits are, behind those of a
abbrev digit_of : ℕ → ℕ
digit_of c = cond (ltb c 58) (c - 48) (c - 87)

abbrev hex_number : ℕ → List ℕ → ℕ
hex_number a [] = a
hex_number a (c ∷ cs) = hex_number (a * 16 + digit_of c) cs

abbrev read_key : List ℕ → ℕ
read_key w = hex_number 0 w

abbrev read_flag : List ℕ → Bool
read_flag w = same_numbers w (flag_text true)

abbrev is_flag : List ℕ → Bool
is_flag w = same_numbers w (flag_text true) || same_numbers w (flag_text false)

abbrev read_failure : List ℕ → FailureReason
read_failure w =
    cond (same_numbers w (failure_text FailureReason.TooManyIncoming)) FailureReason.TooManyIncoming
    (cond (same_numbers w (failure_text FailureReason.BucketFilter)) FailureReason.BucketFilter
    (cond (same_numbers w (failure_text FailureReason.TableFilter)) FailureReason.TableFilter
    (cond (same_numbers w (failure_text FailureReason.KeyNonExistent)) FailureReason.KeyNonExistent
    (cond (same_numbers w (failure_text FailureReason.BucketFull)) FailureReason.BucketFull FailureReason.InvalidSelfUpdate))))

-- the answer that words begin with, and the words behind it
abbrev read_told : List ℕ → List (List ℕ) → Told × List (List ℕ)
read_told w ws =
    cond (same_numbers w (told_text Told.Inserted)) (Told.Inserted, ws)
    (cond (same_numbers w (told_text Told.ValueUpdated)) (Told.ValueUpdated, ws)
    (cond (same_numbers w (told_text Told.UpdatedAndPromoted)) (Told.UpdatedAndPromoted, ws)
    (cond (same_numbers w (told_text Told.UpdatedPending)) (Told.UpdatedPending, ws)
    (cond (same_numbers w (told_text Told.NotModified)) (Told.NotModified, ws)
    (cond (same_numbers w (told_text Told.FailedFilter)) (Told.FailedFilter, ws)
    (cond (same_numbers w (told_text Told.TooManyIncoming)) (Told.TooManyIncoming, ws)
    (cond (same_numbers w (told_text Told.Full)) (Told.Full, ws)
    (cond (same_numbers w (told_text Told.NodeExists)) (Told.NodeExists, ws)
    (cond (same_numbers w (first_of (told_words (Told.Pending 0)))) (Told.Pending (read_key (first_of ws)), rest_of ws)
    (cond (same_numbers w (first_of (told_words (Told.StatusUpdated true)))) (Told.StatusUpdated (read_flag (first_of ws)), rest_of ws)
    (cond (same_numbers w (first_of (told_words (Told.Failed FailureReason.BucketFull)))) (Told.Failed (read_failure (first_of ws)), rest_of ws)
    (cond (same_numbers w (told_text Told.Updated)) (cond (is_flag (first_of ws)) (Told.UpdatedBoth (read_flag (first_of ws)), rest_of ws) (Told.Updated, ws))
    (Told.Removed (read_flag w), ws)))))))))))))

-- the reason that words are
abbrev read_reason : List (List ℕ) → Reason
read_reason ws =
    cond (same_numbers (first_of ws) (first_of (reason_words Reason.None))) Reason.None
    (cond (same_numbers (first_of ws) (first_of (reason_words (Reason.TableFilter [])))) (Reason.TableFilter (map read_key (rest_of (rest_of ws))))
    (cond (same_numbers (first_of ws) (first_of (reason_words (Reason.BucketFilter [])))) (Reason.BucketFilter (map read_key (rest_of (rest_of ws))))
    (cond (same_numbers (first_of ws) (first_of (reason_words (Reason.IncomingLimit [])))) (Reason.IncomingLimit (map read_key (rest_of (rest_of ws))))
    (cond (same_numbers (first_of ws) (first_of (reason_words Reason.NewcomerDisconnected))) Reason.NewcomerDisconnected
    (cond (same_numbers (first_of ws) (first_of (reason_words Reason.AllConnected))) Reason.AllConnected
    (cond (same_numbers (first_of ws) (first_of (reason_words (Reason.Pending 0)))) (Reason.Pending (read_key (first_of (rest_of ws))))
    (cond (same_numbers (first_of ws) (first_of (reason_words Reason.NoSuchKey))) Reason.NoSuchKey
    Reason.LocalKey)))))))

abbrev read_words : List (List ℕ) → Explanation
read_words ws = let r = read_told (first_of ws) (rest_of ws) in record { told = r.0; reason = read_reason r.1 }

-- what a line says
unfoldable pub read_line : List ℕ → Explanation
read_line l = read_words (words_in l)

-- The reader reads back.

plain_space : (b : ℕ) → not (is_mark b) ≡ true → eqb b space ≡ false
plain_space b h = split (eqb b space) (λ e. clash h (rw e)) (λ e. e)

plain_feed : (b : ℕ) → not (is_mark b) ≡ true → eqb b line_feed ≡ false
plain_feed b h = split (eqb b line_feed) (λ e. clash h (rw (plain_space b h, e))) (λ e. e)

word_space : (w : List ℕ) (l : List ℕ) → is_word w ≡ true → words_in (w ++ (space ∷ l)) ≡ w ∷ words_in l
word_space [] l h = refl
word_space (b ∷ w) l h =
    let p = and_left (not (is_mark b)) (is_word w) h in
    let s = plain_space b p in
    let f = plain_feed b p in
    rw (s, f, word_space w l (and_right (not (is_mark b)) (is_word w) h))

word_feed : (w : List ℕ) (l : List ℕ) → is_word w ≡ true → words_in (w ++ (line_feed ∷ l)) ≡ w ∷ []
word_feed [] l h = refl
word_feed (b ∷ w) l h =
    let p = and_left (not (is_mark b)) (is_word w) h in
    let s = plain_space b p in
    let f = plain_feed b p in
    rw (s, f, word_feed w l (and_right (not (is_mark b)) (is_word w) h))

words_back : (w : List ℕ) (ws : List (List ℕ)) (l : List ℕ) → every is_word (w ∷ ws) ≡ true → words_in (text (w ∷ ws) ++ l) ≡ w ∷ ws
words_back w [] l h = rw append_assoc (word_feed w l (and_left (is_word w) true h))
words_back w (v ∷ ws) l h =
    rw append_assoc (word_space w (text (v ∷ ws) ++ l) (and_left (is_word w) (every is_word (v ∷ ws)) h)
    ∙ ap (λ (vs : List (List ℕ)). w ∷ vs) (words_back v ws l (and_right (is_word w) (every is_word (v ∷ ws)) h)))

digit_back : (n : ℕ) → n < 16 → digit_of (digit n) ≡ n
digit_back n h =
    cases (λ (d : ℕ). digit_of d ≡ n) (ltb n 10)
    (λ e. let g : ltb (48 + n) 58 ≡ true = lt-ltb (48 + n) 58 (omega (arith, ltb-true n 10 e)) in rw g (omega arith))
    (λ e. let g : ltb (87 + n) 58 ≡ false = le-ltb (87 + n) 58 (omega arith) in rw g (omega arith))

digits_back : (bs : List ℕ) → Bytes bs → (a : ℕ) → hex_number a (joined digits bs) ≡ a * 256 ^ length bs + number bs
unfolding joined number
digits_back [] h a = omega arith
digits_back (b ∷ bs) h a =
    let l : b < 256 = h 0 in
    let e : (a * 16 + b / 16) * 16 + b % 16 ≡ a * 256 + b = omega arith in
    rw (digit_back (b / 16) (omega arith), digit_back (b % 16) (omega arith), e, digits_back bs (λ i. h (suc i)) (a * 256 + b), pow-succ') (omega arith)

abbrev pub FitsKey : ℕ → Type 0
FitsKey k = k < 256 ^ key_size

pub key_back : (k : ℕ) → FitsKey k → read_key (key_text k) ≡ k
unfolding key_text
key_back k h = digits_back (bytes key_size k) (Bytes_bytes key_size k) 0 ∙ omega (arith, number_there key_size k h)

keys_back : (ks : List ℕ) → All FitsKey ks → map read_key (map key_text ks) ≡ ks
keys_back [] h = refl
keys_back (k ∷ ks) h = rw (key_back k h.0, keys_back ks h.1)

-- the key that an answer names
abbrev pub told_keys : Told → List ℕ
told_keys (Told.Pending k) = k ∷ []
told_keys (Told.StatusUpdated p) = []
told_keys (Told.UpdatedBoth p) = []
told_keys (Told.Failed r) = []
told_keys (Told.Removed r) = []
told_keys Told.Inserted = []
told_keys Told.ValueUpdated = []
told_keys Told.Updated = []
told_keys Told.UpdatedAndPromoted = []
told_keys Told.UpdatedPending = []
told_keys Told.NotModified = []
told_keys Told.FailedFilter = []
told_keys Told.TooManyIncoming = []
told_keys Told.Full = []
told_keys Told.NodeExists = []

-- every key in an explanation is below 2 ^ 256
pub record FitsExplanation (e : Explanation) : Type 0 where
  pub told : All FitsKey (told_keys e.told)
  pub reason : All FitsKey (reason_keys e.reason)

reason_back : (r : Reason) → All FitsKey (reason_keys r) → read_reason (reason_words r) ≡ r
reason_back Reason.None h = refl
reason_back (Reason.TableFilter ks) h = ap Reason.TableFilter (keys_back ks h)
reason_back (Reason.BucketFilter ks) h = ap Reason.BucketFilter (keys_back ks h)
reason_back (Reason.IncomingLimit ks) h = ap Reason.IncomingLimit (keys_back ks h)
reason_back Reason.NewcomerDisconnected h = refl
reason_back Reason.AllConnected h = refl
reason_back (Reason.Pending k) h = ap Reason.Pending (key_back k h.0)
reason_back Reason.NoSuchKey h = refl
reason_back Reason.LocalKey h = refl

abbrev Read : Told → Reason → Type 0
Read t r = read_told (first_of (told_words t ++ reason_words r)) (rest_of (told_words t ++ reason_words r)) ≡ (t, reason_words r)

told_back : (t : Told) (r : Reason) → All FitsKey (told_keys t) → Read t r
told_back (Told.Pending k) r h = ap (λ (j : ℕ). (Told.Pending j, reason_words r)) (key_back k h.0)
told_back (Told.StatusUpdated true) r h = refl
told_back (Told.StatusUpdated false) r h = refl
told_back (Told.UpdatedBoth true) r h = refl
told_back (Told.UpdatedBoth false) r h = refl
told_back (Told.Removed true) r h = refl
told_back (Told.Removed false) r h = refl
told_back (Told.Failed FailureReason.TooManyIncoming) r h = refl
told_back (Told.Failed FailureReason.BucketFilter) r h = refl
told_back (Told.Failed FailureReason.TableFilter) r h = refl
told_back (Told.Failed FailureReason.KeyNonExistent) r h = refl
told_back (Told.Failed FailureReason.BucketFull) r h = refl
told_back (Told.Failed FailureReason.InvalidSelfUpdate) r h = refl
told_back Told.Inserted r h = refl
told_back Told.ValueUpdated r h = refl
told_back Told.UpdatedAndPromoted r h = refl
told_back Told.UpdatedPending r h = refl
told_back Told.NotModified r h = refl
told_back Told.FailedFilter r h = refl
told_back Told.TooManyIncoming r h = refl
told_back Told.Full r h = refl
told_back Told.NodeExists r h = refl
told_back Told.Updated Reason.None h = refl
told_back Told.Updated (Reason.TableFilter ks) h = refl
told_back Told.Updated (Reason.BucketFilter ks) h = refl
told_back Told.Updated (Reason.IncomingLimit ks) h = refl
told_back Told.Updated Reason.NewcomerDisconnected h = refl
told_back Told.Updated Reason.AllConnected h = refl
told_back Told.Updated (Reason.Pending k) h = refl
told_back Told.Updated Reason.NoSuchKey h = refl
told_back Told.Updated Reason.LocalKey h = refl

explanation_back : (t : Told) (r : Reason) → FitsExplanation (record { told = t; reason = r }) → read_words (told_words t ++ reason_words r) ≡ record { told = t; reason = r }
explanation_back t r h =
    ap (λ (p : Told × List (List ℕ)). record { told = p.0; reason = read_reason p.1 }) (told_back t r h.told)
    ∙ ap (λ (x : Reason). record { told = t; reason = x }) (reason_back r h.reason)

told_first : (t : Told) → told_words t ≡ first_of (told_words t) ∷ rest_of (told_words t)
told_first (Told.Pending k) = refl
told_first (Told.StatusUpdated p) = refl
told_first (Told.UpdatedBoth p) = refl
told_first (Told.Failed r) = refl
told_first (Told.Removed r) = refl
told_first Told.Inserted = refl
told_first Told.ValueUpdated = refl
told_first Told.Updated = refl
told_first Told.UpdatedAndPromoted = refl
told_first Told.UpdatedPending = refl
told_first Told.NotModified = refl
told_first Told.FailedFilter = refl
told_first Told.TooManyIncoming = refl
told_first Told.Full = refl
told_first Told.NodeExists = refl

words_first : (e : Explanation) (l : List ℕ) → words_in (text (words e) ++ l) ≡ words e
words_first e l =
    let r = reason_words e.reason in
    subst (λ (ws : List (List ℕ)). every is_word (ws ++ r) ≡ true → words_in (text (ws ++ r) ++ l) ≡ ws ++ r) (sym (told_first e.told))
    (words_back (first_of (told_words e.told)) (rest_of (told_words e.told) ++ r) l) (are_words e)

-- a line, and whatever stands behind it, reads back as its explanation
pub line_back : (e : Explanation) (l : List ℕ) → FitsExplanation e → read_line (line e ++ l) ≡ e
unfolding read_line
line_back e l h =
    ap (λ (m : List ℕ). read_words (words_in (m ++ l))) (line_spaced e)
    ∙ ap read_words (words_first e l)
    ∙ explanation_back e.told e.reason h

-- 02: two different explanations never share a line
pub line_tells : (e f : Explanation) → FitsExplanation e → FitsExplanation f → line e ≡ line f → e ≡ f
line_tells e f g h p = sym (line_back e [] g) ∙ ap (λ (m : List ℕ). read_line (m ++ [])) p ∙ line_back f [] h
