-- The line of an explanation (02, slip 1): each reason has its own fixed words, and the line is its words with one space between them and a
-- line feed at the end.
use Prim.Native.Nat.{ℕ, ◌+◌, ◌/◌, ◌%◌}
use native.Mathlib.Omega.{arith}
use mathlib.Core.Path.{◌≡◌, refl, sym, ap, ◌∙◌}
use mathlib.Core.Bool.{Bool, true, false, not, ◌&&◌, ◌||◌}
use mathlib.Core.List.{List, [], ◌∷◌, ◌++◌, map, append_assoc}
use lib.Dec.{eqb, ltb}
use borrow.Author.Tests.{ne_eqb}
use Rattle.model.specs.Base.{every, joined}
use Rattle.model.specs.Bytes.{bytes}
use Rattle.model.specs.Result.{FailureReason}
use Rattle.model.specs.Sizes.{key_size}
use Rattle.model.specs.Numbers.{same_numbers}
use Rattle.model.specs.Explain.{Told, Reason, Explanation, space, line_feed, digit, digits, key_text, failure_text, flag_text, told_text, reason_text, reason_keys, keys_text, line}
use Rattle.laws.proofs.Tests.{cases}
use Rattle.laws.proofs.Lists.{every_append}

-- The nine fixed texts.

-- no two of the byte strings are the same
abbrev pub apart : List (List ℕ) → Bool
apart [] = true
apart (w ∷ ws) = every (λ v. not (same_numbers w v)) ws && apart ws

abbrev pub reason_texts : List (List ℕ)
reason_texts =
    reason_text Reason.None
    ∷ reason_text (Reason.TableFilter [])
    ∷ reason_text (Reason.BucketFilter [])
    ∷ reason_text (Reason.IncomingLimit [])
    ∷ reason_text Reason.NewcomerDisconnected
    ∷ reason_text Reason.AllConnected
    ∷ reason_text (Reason.Pending 0)
    ∷ reason_text Reason.NoSuchKey
    ∷ reason_text Reason.LocalKey
    ∷ []

-- 02: each reason begins with its own fixed words; one computed test over the nine whole strings
pub reasons_apart : apart reason_texts ≡ true
reasons_apart = refl

-- Words.

abbrev pub is_mark : ℕ → Bool
is_mark b = eqb b space || eqb b line_feed

-- neither a space nor a line feed in it
abbrev pub is_word : List ℕ → Bool
is_word w = every (λ b. not (is_mark b)) w

-- words with one space between them, and a line feed
abbrev pub text : List (List ℕ) → List ℕ
text [] = line_feed ∷ []
text (w ∷ []) = w ++ (line_feed ∷ [])
text (w ∷ v ∷ ws) = w ++ (space ∷ text (v ∷ ws))

-- the words of an answer
abbrev pub told_words : Told → List (List ℕ)
told_words (Told.Pending k) = (80 ∷ 101 ∷ 110 ∷ 100 ∷ 105 ∷ 110 ∷ 103 ∷ []) ∷ key_text k ∷ []
told_words (Told.StatusUpdated p) = (83 ∷ 116 ∷ 97 ∷ 116 ∷ 117 ∷ 115 ∷ 85 ∷ 112 ∷ 100 ∷ 97 ∷ 116 ∷ 101 ∷ 100 ∷ []) ∷ flag_text p ∷ []
told_words (Told.UpdatedBoth p) = told_text Told.Updated ∷ flag_text p ∷ []
told_words (Told.Failed r) = (70 ∷ 97 ∷ 105 ∷ 108 ∷ 101 ∷ 100 ∷ []) ∷ failure_text r ∷ []
told_words (Told.Removed r) = flag_text r ∷ []
told_words Told.Inserted = told_text Told.Inserted ∷ []
told_words Told.ValueUpdated = told_text Told.ValueUpdated ∷ []
told_words Told.Updated = told_text Told.Updated ∷ []
told_words Told.UpdatedAndPromoted = told_text Told.UpdatedAndPromoted ∷ []
told_words Told.UpdatedPending = told_text Told.UpdatedPending ∷ []
told_words Told.NotModified = told_text Told.NotModified ∷ []
told_words Told.FailedFilter = told_text Told.FailedFilter ∷ []
told_words Told.TooManyIncoming = told_text Told.TooManyIncoming ∷ []
told_words Told.Full = told_text Told.Full ∷ []
told_words Told.NodeExists = told_text Told.NodeExists ∷ []

-- the words of the reasons that have more than one

abbrev word_table : List ℕ
word_table = 116 ∷ 97 ∷ 98 ∷ 108 ∷ 101 ∷ []

abbrev word_filter : List ℕ
word_filter = 102 ∷ 105 ∷ 108 ∷ 116 ∷ 101 ∷ 114 ∷ []

abbrev word_bucket : List ℕ
word_bucket = 98 ∷ 117 ∷ 99 ∷ 107 ∷ 101 ∷ 116 ∷ []

abbrev word_incoming : List ℕ
word_incoming = 105 ∷ 110 ∷ 99 ∷ 111 ∷ 109 ∷ 105 ∷ 110 ∷ 103 ∷ []

abbrev word_limit : List ℕ
word_limit = 108 ∷ 105 ∷ 109 ∷ 105 ∷ 116 ∷ []

abbrev word_newcomer : List ℕ
word_newcomer = 110 ∷ 101 ∷ 119 ∷ 99 ∷ 111 ∷ 109 ∷ 101 ∷ 114 ∷ []

abbrev word_disconnected : List ℕ
word_disconnected = 100 ∷ 105 ∷ 115 ∷ 99 ∷ 111 ∷ 110 ∷ 110 ∷ 101 ∷ 99 ∷ 116 ∷ 101 ∷ 100 ∷ []

abbrev word_all : List ℕ
word_all = 97 ∷ 108 ∷ 108 ∷ []

abbrev word_connected : List ℕ
word_connected = 99 ∷ 111 ∷ 110 ∷ 110 ∷ 101 ∷ 99 ∷ 116 ∷ 101 ∷ 100 ∷ []

abbrev word_no : List ℕ
word_no = 110 ∷ 111 ∷ []

abbrev word_such : List ℕ
word_such = 115 ∷ 117 ∷ 99 ∷ 104 ∷ []

abbrev word_key : List ℕ
word_key = 107 ∷ 101 ∷ 121 ∷ []

abbrev word_local : List ℕ
word_local = 108 ∷ 111 ∷ 99 ∷ 97 ∷ 108 ∷ []

-- the words of a reason, and its keys
abbrev pub reason_words : Reason → List (List ℕ)
reason_words Reason.None = reason_text Reason.None ∷ []
reason_words (Reason.TableFilter ks) = word_table ∷ word_filter ∷ map key_text ks
reason_words (Reason.BucketFilter ks) = word_bucket ∷ word_filter ∷ map key_text ks
reason_words (Reason.IncomingLimit ks) = word_incoming ∷ word_limit ∷ map key_text ks
reason_words Reason.NewcomerDisconnected = word_newcomer ∷ word_disconnected ∷ []
reason_words Reason.AllConnected = word_all ∷ word_connected ∷ []
reason_words (Reason.Pending k) = reason_text (Reason.Pending k) ∷ key_text k ∷ []
reason_words Reason.NoSuchKey = word_no ∷ word_such ∷ word_key ∷ []
reason_words Reason.LocalKey = word_local ∷ word_key ∷ []

abbrev pub words : Explanation → List (List ℕ)
words e = told_words e.told ++ reason_words e.reason

-- The line is its words.

told_spaced : (t : Told) (v : List ℕ) (ws : List (List ℕ)) → text (told_words t ++ (v ∷ ws)) ≡ told_text t ++ (space ∷ text (v ∷ ws))
told_spaced (Told.Pending k) v ws = refl
told_spaced (Told.StatusUpdated p) v ws = refl
told_spaced (Told.UpdatedBoth p) v ws = refl
told_spaced (Told.Failed r) v ws = refl
told_spaced (Told.Removed r) v ws = refl
told_spaced Told.Inserted v ws = refl
told_spaced Told.ValueUpdated v ws = refl
told_spaced Told.Updated v ws = refl
told_spaced Told.UpdatedAndPromoted v ws = refl
told_spaced Told.UpdatedPending v ws = refl
told_spaced Told.NotModified v ws = refl
told_spaced Told.FailedFilter v ws = refl
told_spaced Told.TooManyIncoming v ws = refl
told_spaced Told.Full v ws = refl
told_spaced Told.NodeExists v ws = refl

keys_spaced : (w : List ℕ) (ks : List ℕ) → text (w ∷ map key_text ks) ≡ w ++ (keys_text ks ++ (line_feed ∷ []))
unfolding keys_text joined
keys_spaced w [] = refl
keys_spaced w (k ∷ ks) =
    ap (λ (l : List ℕ). w ++ (space ∷ l)) (keys_spaced (key_text k) ks ∙ sym (append_assoc (key_text k) (keys_text ks) (line_feed ∷ [])))

two_spaced : (w v : List ℕ) (ks : List ℕ) → text (w ∷ v ∷ map key_text ks) ≡ (w ++ (space ∷ v)) ++ (keys_text ks ++ (line_feed ∷ []))
two_spaced w v ks = ap (λ (l : List ℕ). w ++ (space ∷ l)) (keys_spaced v ks) ∙ sym (append_assoc w (space ∷ v) (keys_text ks ++ (line_feed ∷ [])))

reason_spaced : (r : Reason) → text (reason_words r) ≡ reason_text r ++ (keys_text (reason_keys r) ++ (line_feed ∷ []))
unfolding keys_text joined
reason_spaced Reason.None = refl
reason_spaced (Reason.TableFilter ks) = two_spaced word_table word_filter ks
reason_spaced (Reason.BucketFilter ks) = two_spaced word_bucket word_filter ks
reason_spaced (Reason.IncomingLimit ks) = two_spaced word_incoming word_limit ks
reason_spaced Reason.NewcomerDisconnected = refl
reason_spaced Reason.AllConnected = refl
reason_spaced (Reason.Pending k) = keys_spaced (reason_text (Reason.Pending k)) (k ∷ [])
reason_spaced Reason.NoSuchKey = refl
reason_spaced Reason.LocalKey = refl

told_reason : (t : Told) (r : Reason) → text (told_words t ++ reason_words r) ≡ told_text t ++ (space ∷ text (reason_words r))
told_reason t Reason.None = told_spaced t (reason_text Reason.None) []
told_reason t (Reason.TableFilter ks) = told_spaced t word_table (word_filter ∷ map key_text ks)
told_reason t (Reason.BucketFilter ks) = told_spaced t word_bucket (word_filter ∷ map key_text ks)
told_reason t (Reason.IncomingLimit ks) = told_spaced t word_incoming (word_limit ∷ map key_text ks)
told_reason t Reason.NewcomerDisconnected = told_spaced t word_newcomer (word_disconnected ∷ [])
told_reason t Reason.AllConnected = told_spaced t word_all (word_connected ∷ [])
told_reason t (Reason.Pending k) = told_spaced t (reason_text (Reason.Pending k)) (key_text k ∷ [])
told_reason t Reason.NoSuchKey = told_spaced t word_no (word_such ∷ word_key ∷ [])
told_reason t Reason.LocalKey = told_spaced t word_local (word_key ∷ [])

-- 02: one space parts words and keys; a line feed ends the line
pub line_spaced : (e : Explanation) → line e ≡ text (words e)
unfolding line
line_spaced e =
    ap (λ (l : List ℕ). told_text e.told ++ (space ∷ l)) (sym (reason_spaced e.reason)) ∙ sym (told_reason e.told e.reason)

-- Each of them is a word.

digit_plain : (n : ℕ) → is_mark (digit n) ≡ false
digit_plain n =
    cases (λ (d : ℕ). is_mark d ≡ false) (ltb n 10) (λ e. rw (ne_eqb (48 + n) 32 (λ (p : 48 + n ≡ 32). omega arith), ne_eqb (48 + n) 10 (λ (p : 48 + n ≡ 10). omega arith)))
    (λ e. rw (ne_eqb (87 + n) 32 (λ (p : 87 + n ≡ 32). omega arith), ne_eqb (87 + n) 10 (λ (p : 87 + n ≡ 10). omega arith)))

digits_word : (bs : List ℕ) → is_word (joined digits bs) ≡ true
unfolding joined
digits_word [] = refl
digits_word (b ∷ bs) = rw (digit_plain (b / 16), digit_plain (b % 16), digits_word bs)

pub key_word : (k : ℕ) → is_word (key_text k) ≡ true
unfolding key_text
key_word k = digits_word (bytes key_size k)

keys_words : (ks : List ℕ) → every is_word (map key_text ks) ≡ true
keys_words [] = refl
keys_words (k ∷ ks) = rw (key_word k, keys_words ks)

flag_word : (p : Bool) → is_word (flag_text p) ≡ true
flag_word true = refl
flag_word false = refl

failure_word : (r : FailureReason) → is_word (failure_text r) ≡ true
failure_word FailureReason.TooManyIncoming = refl
failure_word FailureReason.BucketFilter = refl
failure_word FailureReason.TableFilter = refl
failure_word FailureReason.KeyNonExistent = refl
failure_word FailureReason.BucketFull = refl
failure_word FailureReason.InvalidSelfUpdate = refl

told_words_lem : (t : Told) → every is_word (told_words t) ≡ true
told_words_lem (Told.Pending k) = rw (key_word k)
told_words_lem (Told.StatusUpdated p) = rw (flag_word p)
told_words_lem (Told.UpdatedBoth p) = rw (flag_word p)
told_words_lem (Told.Failed r) = rw (failure_word r)
told_words_lem (Told.Removed r) = rw (flag_word r)
told_words_lem Told.Inserted = refl
told_words_lem Told.ValueUpdated = refl
told_words_lem Told.Updated = refl
told_words_lem Told.UpdatedAndPromoted = refl
told_words_lem Told.UpdatedPending = refl
told_words_lem Told.NotModified = refl
told_words_lem Told.FailedFilter = refl
told_words_lem Told.TooManyIncoming = refl
told_words_lem Told.Full = refl
told_words_lem Told.NodeExists = refl

reason_words_lem : (r : Reason) → every is_word (reason_words r) ≡ true
reason_words_lem Reason.None = refl
reason_words_lem (Reason.TableFilter ks) = keys_words ks
reason_words_lem (Reason.BucketFilter ks) = keys_words ks
reason_words_lem (Reason.IncomingLimit ks) = keys_words ks
reason_words_lem Reason.NewcomerDisconnected = refl
reason_words_lem Reason.AllConnected = refl
reason_words_lem (Reason.Pending k) = rw (key_word k)
reason_words_lem Reason.NoSuchKey = refl
reason_words_lem Reason.LocalKey = refl

pub are_words : (e : Explanation) → every is_word (words e) ≡ true
are_words e = every_append is_word (told_words e.told) (reason_words e.reason) ∙ (rw (told_words_lem e.told, reason_words_lem e.reason))
