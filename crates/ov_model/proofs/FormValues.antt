-- The values that a form's options and words give.
use Rattle.std.proofs.Common.{◌≡◌, ℕ, ◌+◌, ◌≤◌, ◌==◌, Bool, true, false, List, [], ◌∷◌, ◌++◌, length, refl, sym, ◌∙◌, ap, subst, inl, inr, arith}
use Rattle.std.specs.Prelude.{◌≢◌, ◌⊎◌, ◌&&◌, ◌||◌, not, if◌then◌else◌, nat_le, codes, is_some, slice_get, Option, Some, None, Result, Ok, Err}
use Rattle.std.specs.List.{slice_split}
use Rattle.std.specs.Option.{option_map, option_and_then}
use Rattle.std.specs.Str.{bytes_eq}
use Rattle.std.proofs.lemmas.Bool.{leb-true}
use Rattle.std.proofs.lemmas.List.Splits.{length-slice_split}
use Rattle.ov_model.specs.Forms.{Param, Choice, Values, before_in, option_in, own_in, vids_in, text_in}
use Rattle.ov_model.specs.Line.{has, choice_named, may_follow, and_then, accepted, option_at, with_option, one_option, read_options, read_words}
use Rattle.ov_model.specs.Values.{number_of, number_in, number_from, number_with, last_number, all_some, vids_of, ratio_of, or_refused, when, read}
use Rattle.ov_model.specs.declared.given.Given.{Given}
use Rattle.ov_model.specs.declared.given.Given.TheVariants.{Both, Number, Ratio, Text, Vids}
use Rattle.ov_model.specs.declared.given.Reading.{Reading}
use Rattle.ov_model.specs.declared.given.Reading.TheVariants.{ListOfVids, Message, NumberFrom, NumberWith, TwoNumbers}
use Rattle.ov_model.specs.declared.refusal.Refusal.{Refusal}
use Rattle.ov_model.specs.declared.refusal.Refusal.TheVariants as no

-- ---- a list of versions has one

err_ok : {X : Type 0} (r : Refusal) (x : X) → Err r ≡ Ok x → ⊥
err_ok r x e = cc

and_ok : {X Y : Type 0} (f : X → Result Y Refusal) (r : Result X Refusal) (y : Y) → and_then f r ≡ Ok y → (x : X) × (r ≡ Ok x) × (f x ≡ Ok y)
and_ok f (Ok x) y e = (x, refl, e)
and_ok f (Err refusal) y e = absurd (err_ok refusal y e)

abbrev fine : {X : Type 0} → X → Result X Refusal
fine x = Ok x

same_ok : {X : Type 0} (a b : X) → fine a ≡ fine b → a ≡ b
same_ok a b e = cc

none_some : {X : Type 0} (x : X) → None ≡ Some x → ⊥
none_some x e = cc

some_same : {X : Type 0} (a b : X) → Some a ≡ Some b → a ≡ b
some_same a b e = cc

onto_some : (y : ℕ) (rest : Option (List ℕ)) (ys : List ℕ) → option_map (λ l. y ∷ l) rest ≡ Some ys → ys ≢ []
onto_some y None ys e none = none_some ys e
onto_some y (Some l) ys e none = clash (some_same (y ∷ l) ys e ∙ none)
  where
    clash : y ∷ l ≡ [] → ⊥
    clash f = cc

and_some : (first : Option ℕ) (rest : Option (List ℕ)) (ys : List ℕ) → option_and_then (λ y. option_map (λ l. y ∷ l) rest) first ≡ Some ys → ys ≢ []
and_some None rest ys e none = none_some ys e
and_some (Some y) rest ys e none = onto_some y rest ys e none

all_listed : (texts : List (List ℕ)) (vids : List ℕ) → 1 ≤ length texts → all_some number_of texts ≡ Some vids → vids ≢ []
all_listed [] vids some e = absurd (omega (arith, some))
all_listed (text ∷ texts) vids some e = and_some (number_of text) (all_some number_of texts) vids e

pub vids_some : (text vids : List ℕ) → vids_of text ≡ Some vids → vids ≢ []
vids_some text vids e = all_listed (slice_split (λ c. c == 44) text) vids (omega (arith, length-slice_split (λ c. c == 44) text)) e

given_vids : (text : List ℕ) (vids : Option (List ℕ)) (given : Given) → vids_of text ≡ vids → or_refused no.BadNumber Vids vids ≡ Ok given → vids_in (Some given) ≢ []
given_vids text None given e f = absurd (err_ok no.BadNumber given f)
given_vids text (Some vids) given e f = subst (λ g. vids_in (Some g) ≢ []) (same_ok (Vids vids) given f) (vids_some text vids e)

-- a text that is given as a message has at most 1,024 bytes
given_message : (nth : ℕ) (text : List ℕ) (given : Given) (short : Bool) → nat_le (length text) 1024 ≡ short → when short (no.UnexpectedWord nth) (Text text) ≡ Ok given → length (text_in (Some given)) ≤ 1024
given_message nth text given true le e =
    subst (λ g. length (text_in (Some g)) ≤ 1024) (same_ok (Text text) given e) (leb-true (length text) 1024 le)
given_message nth text given false le e = absurd (err_ok (no.UnexpectedWord nth) given e)

-- two numbers have no text
given_ratio : (ratio : Option (ℕ × ℕ)) (given : Given) → or_refused no.BadNumber (λ r. Ratio r.0 r.1) ratio ≡ Ok given → length (text_in (Some given)) ≤ 1024
given_ratio None given e = absurd (err_ok no.BadNumber given e)
given_ratio (Some r) given e = subst (λ g. length (text_in (Some g)) ≤ 1024) (same_ok (Ratio r.0 r.1) given e) (omega arith)

message_good : (before : List Given) (nth : ℕ) (value : List ℕ) (given : Given) (reads : Reading) → (reads ≡ Message) ⊎ (reads ≡ TwoNumbers) → read reads nth before value ≡ Ok given
    → length (text_in (Some given)) ≤ 1024
message_good before nth value given reads (inl is) e =
    given_message nth value given (nat_le (length value) 1024) refl (sym (ap (λ r. read r nth before value) is) ∙ e)
message_good before nth value given reads (inr is) e = given_ratio (ratio_of value) given (sym (ap (λ r. read r nth before value) is) ∙ e)

-- ---- options

-- what an option gives: `-v` gives versions, `-m` a message or two numbers, none is written as nothing, and May holds of how it is written
pub record IsGood (May : List ℕ → Type 0) (o : List ℕ × Given) : Type 0 where
  pub versions : bytes_eq o.0 (codes "-v") ≡ true → vids_in (Some o.1) ≢ []
  pub message : bytes_eq o.0 (codes "-m") ≡ true → length (text_in (Some o.1)) ≤ 1024
  pub written : bytes_eq o.0 [] ≡ false
  pub may : May o.0

abbrev pub AreGood : (List ℕ → Type 0) → List (List ℕ × Given) → Type 0
AreGood May [] = Unit {0}
AreGood May (o ∷ os) = IsGood May o × AreGood May os

-- a choice whose options are such
pub record IsRead (May : List ℕ → Type 0) (c : Choice) : Type 0 where
  pub versions : bytes_eq c.letter (codes "-v") ≡ true → c.reads ≡ ListOfVids
  pub message : bytes_eq c.letter (codes "-m") ≡ true → (c.reads ≡ Message) ⊎ (c.reads ≡ TwoNumbers)
  pub written : bytes_eq c.letter [] ≡ false
  pub may : May c.letter

abbrev pub AllRead : (List ℕ → Type 0) → List Choice → Type 0
AllRead May [] = Unit {0}
AllRead May (c ∷ cs) = IsRead May c × AllRead May cs

accepted_if : (t : Bool) (nth : ℕ) (c d : Choice) → (if t then Ok c else Err (no.UnexpectedWord nth)) ≡ Ok d → c ≡ d
accepted_if true nth c d e = same_ok c d e
accepted_if false nth c d e = absurd (err_ok (no.UnexpectedWord nth) d e)

module _ (May : List ℕ → Type 0) where
  good_last : (os : List (List ℕ × Given)) (o : List ℕ × Given) → AreGood May os → IsGood May o → AreGood May (os ++ o ∷ [])
  good_last [] o good is = (is, tt)
  good_last (x ∷ os) o good is = (good.0, good_last os o good.1 is)

  named_if : (t : Bool) (c d : Choice) (rest : Option Choice) → (if t then Some c else rest) ≡ Some d → IsRead May c → (rest ≡ Some d → IsRead May d) → IsRead May d
  named_if true c d rest e is later = subst (IsRead May) (some_same c d e) is
  named_if false c d rest e is later = later e

  named_reads : (cs : List Choice) (letter : List ℕ) (d : Choice) → AllRead May cs → choice_named cs letter ≡ Some d → IsRead May d
  named_reads [] letter d all e = absurd (none_some d e)
  named_reads (c ∷ cs) letter d all e = named_if (bytes_eq c.letter letter) c d (choice_named cs letter) e all.0 (named_reads cs letter d all.1)

  accepted_reads : (nth : ℕ) (options : List (List ℕ × Given)) (found : Option Choice) (d : Choice) → accepted nth options found ≡ Ok d → ((c : Choice) → found ≡ Some c → IsRead May c) → IsRead May d
  accepted_reads nth options None d e reads = absurd (err_ok (no.UnexpectedWord nth) d e)
  accepted_reads nth options (Some c) d e reads = subst (IsRead May) (accepted_if (may_follow options c) nth c d e) (reads c refl)

  read_good : (before : List Given) (nth : ℕ) (value : List ℕ) (c : Choice) (given : Given) → IsRead May c → read c.reads nth before value ≡ Ok given → IsGood May (c.letter, given)
  read_good before nth value c given is e = record {
    versions = λ same. given_vids value (vids_of value) given refl (sym (ap (λ r. read r nth before value) (is.versions same)) ∙ e);
    message = λ same. message_good before nth value given c.reads (is.message same) e;
    written = is.written;
    may = is.may;
  }

module _ (May : List ℕ → Type 0) (choices : List Choice) (all : AllRead May choices) (before : List Given) where
  one_good : (options more : List (List ℕ × Given)) (nth : ℕ) (letter value : List ℕ) → AreGood May options → one_option choices before options nth letter value ≡ Ok more → AreGood May more
  one_good options more nth letter value good e =
      let found = and_ok (λ c. and_then (λ given. Ok (with_option options c.letter given)) (read c.reads (nth + 1) before value)) (option_at choices options nth letter) more e
      in let c : Choice = found.0
      in let reads : IsRead May c = accepted_reads May nth options (choice_named choices letter) c found.1 (λ d f. named_reads May choices letter d all f)
      in let got = and_ok (λ given. Ok (with_option options c.letter given)) (read c.reads (nth + 1) before value) more found.2
      in subst (AreGood May) (same_ok (with_option options c.letter got.0) more got.2)
      (good_last May options (c.letter, got.0) good (read_good May before (nth + 1) value c got.0 reads got.1))

  options_good : (options : List (List ℕ × Given)) (nth : ℕ) (words : List (List ℕ)) (v : Values) → AreGood May options → read_options choices before options nth words ≡ Ok v → AreGood May v.options
  options_good options nth [] v good e = subst (λ x. AreGood May x.options) (same_ok (record { words = before; options = options }) v e) good
  options_good options nth (letter ∷ []) v good e =
      let found = and_ok (λ c. Err (no.Missing c.letter)) (option_at choices options nth letter) v e
      in absurd (err_ok (no.Missing found.0.letter) v found.2)
  options_good options nth (letter ∷ value ∷ words) v good e =
      let found = and_ok (λ more. read_options choices before more (nth + 2) words) (one_option choices before options nth letter value) v e
      in options_good found.0 (nth + 2) words v (one_good options found.0 nth letter value good found.1) found.2

pub words_good : (May : List ℕ → Type 0) (choices : List Choice) → AllRead May choices → (params : List Param) (before : List Given) (nth : ℕ) (words : List (List ℕ)) (v : Values)
    → read_words choices params before nth words ≡ Ok v → AreGood May v.options
words_good May choices all [] before nth words v e = options_good May choices all before [] nth words v tt e
words_good May choices all (p ∷ ps) before nth [] v e = absurd (err_ok (no.Missing p.what) v e)
words_good May choices all (p ∷ ps) before nth (word ∷ words) v e =
    let found = and_ok (λ given. read_words choices ps (before ++ given ∷ []) (nth + 1) words) (read p.reads nth before word) v e
    in words_good May choices all ps (before ++ found.0 ∷ []) (nth + 1) words v found.2

-- ---- what is among them

versions_if : (t : Bool) (o : List ℕ × Given) (os : List (List ℕ × Given)) → (t ≡ true → vids_in (Some o.1) ≢ []) → (is_some (option_in os (codes "-v")) ≡ true → vids_in (option_in os (codes "-v")) ≢ [])
    → is_some (if t then Some o.1 else option_in os (codes "-v")) ≡ true → vids_in (if t then Some o.1 else option_in os (codes "-v")) ≢ []
versions_if true o os here later e = here refl
versions_if false o os here later e = later e

some_none : {X : Type 0} (x : X) → Some x ≡ None → ⊥
some_none x e = cc

pub first_there : (t u : Bool) (letter : List ℕ) (rest : Option (List ℕ)) → u ≡ false → (if not (t || u) then Some letter else rest) ≡ None → t ≡ true
first_there true u letter rest f e = refl
first_there false true letter rest f e = cc
first_there false false letter rest f e = absurd (some_none letter e)

message_if : (t : Bool) (o : List ℕ × Given) (rest : Option Given) → (t ≡ true → length (text_in (Some o.1)) ≤ 1024) → length (text_in rest) ≤ 1024 → length (text_in (if t then Some o.1 else rest)) ≤ 1024
message_if true o rest here later = here refl
message_if false o rest here later = later

module _ (May : List ℕ → Type 0) where
  pub no_blank : (os : List (List ℕ × Given)) → AreGood May os → has os [] ≡ false
  no_blank [] good = refl
  no_blank (o ∷ os) good = ap (λ t. is_some (if t then Some o.1 else option_in os [])) good.0.written ∙ no_blank os good.1

  -- an option that is written so isn't among them, where May holds of nothing that is written so
  pub unwritten : (letter : List ℕ) → ((other : List ℕ) → May other → bytes_eq other letter ≡ false) → (os : List (List ℕ × Given)) → AreGood May os → option_in os letter ≡ None
  unwritten letter never [] good = refl
  unwritten letter never (o ∷ os) good = ap (λ t. if t then Some o.1 else option_in os letter) (never o.0 good.0.may) ∙ unwritten letter never os good.1

  has_versions : (os : List (List ℕ × Given)) → AreGood May os → has os (codes "-v") ≡ true → vids_in (option_in os (codes "-v")) ≢ []
  has_versions [] good e = cc
  has_versions (o ∷ os) good e = versions_if (bytes_eq o.0 (codes "-v")) o os good.0.versions (has_versions os good.1) e

  -- where the first of the options that are needed is `-v`, and nothing is missing, there are versions
  pub versions_there : (os : List (List ℕ × Given)) (rest : Option (List ℕ)) → AreGood May os → (if not (has os (codes "-v") || has os []) then Some (codes "-v") else rest) ≡ None → vids_in (option_in os (codes "-v")) ≢ []
  versions_there os rest good none =
      has_versions os good (first_there (has os (codes "-v")) (has os []) (codes "-v") rest (no_blank os good) none)

  -- where no message is given it is empty
  pub message_short : (os : List (List ℕ × Given)) → AreGood May os → length (text_in (option_in os (codes "-m"))) ≤ 1024
  message_short [] good = omega arith
  message_short (o ∷ os) good = message_if (bytes_eq o.0 (codes "-m")) o (option_in os (codes "-m")) good.0.message (message_short os good.1)

-- ---- the words in order

-- what a word gives, behind the values of those before it
pub record WordRead (p : Param) (before : List Given) (given : Given) : Type 0 where
  pub nth : ℕ
  pub word : List ℕ
  pub reads : read p.reads nth before word ≡ Ok given

abbrev pub WordsRead : List Param → List Given → List Given → Type 0
WordsRead [] before words = words ≡ before
WordsRead (p ∷ ps) before words = (given : Given) × WordRead p before given × WordsRead ps (before ++ given ∷ []) words

options_words : (choices : List Choice) (before : List Given) (options : List (List ℕ × Given)) (nth : ℕ) (words : List (List ℕ)) (v : Values) → read_options choices before options nth words ≡ Ok v
    → v.words ≡ before
options_words choices before options nth [] v e = sym (ap (λ x. x.words) (same_ok (record { words = before; options = options }) v e))
options_words choices before options nth (letter ∷ []) v e =
    let found = and_ok (λ c. Err (no.Missing c.letter)) (option_at choices options nth letter) v e
    in absurd (err_ok (no.Missing found.0.letter) v found.2)
options_words choices before options nth (letter ∷ value ∷ words) v e =
    let found = and_ok (λ more. read_options choices before more (nth + 2) words) (one_option choices before options nth letter value) v e
    in options_words choices before found.0 (nth + 2) words v found.2

pub words_read : (choices : List Choice) (params : List Param) (before : List Given) (nth : ℕ) (words : List (List ℕ)) (v : Values) → read_words choices params before nth words ≡ Ok v
    → WordsRead params before v.words
words_read choices [] before nth words v e = options_words choices before [] nth words v e
words_read choices (p ∷ ps) before nth [] v e = absurd (err_ok (no.Missing p.what) v e)
words_read choices (p ∷ ps) before nth (word ∷ words) v e =
    let found = and_ok (λ given. read_words choices ps (before ++ given ∷ []) (nth + 1) words) (read p.reads nth before word) v e
    in (found.0, record { nth = nth; word = word; reads = found.1 }, words_read choices ps (before ++ found.0 ∷ []) (nth + 1) words v found.2)

-- ---- numbers

or_ok : {X : Type 0} (refusal : Refusal) (give : X → Given) (o : Option X) (given : Given) → or_refused refusal give o ≡ Ok given → (x : X) × (o ≡ Some x) × (give x ≡ given)
or_ok refusal give None given e = absurd (err_ok refusal given e)
or_ok refusal give (Some x) given e = (x, refl, same_ok (give x) given e)

number_if : (least most n m : ℕ) (a b : Bool) → nat_le least n ≡ a → nat_le n most ≡ b → (if a && b then Some n else None) ≡ Some m → (least ≤ m) × (m ≤ most)
number_if least most n m true true low high e =
    let same : n ≡ m = some_same n m e in (subst (λ k. least ≤ k) same (leb-true least n low), subst (λ k. k ≤ most) same (leb-true n most high))
number_if least most n m true false low high e = absurd (none_some m e)
number_if least most n m false b low high e = absurd (none_some m e)

number_in_ok : (least most : ℕ) (o : Option ℕ) (m : ℕ) → number_in least most o ≡ Some m → (least ≤ m) × (m ≤ most)
number_in_ok least most None m e = absurd (none_some m e)
number_in_ok least most (Some n) m e = number_if least most n m (nat_le least n) (nat_le n most) refl refl e

together_if : (before most k n : ℕ) (t : Bool) → nat_le (before + k) most ≡ t → (if t then Some k else None) ≡ Some n → (k ≡ n) × (before + n ≤ most)
together_if before most k n true le e = let same : k ≡ n = some_same k n e in (same, subst (λ x. before + x ≤ most) same (leb-true (before + k) most le))
together_if before most k n false le e = absurd (none_some n e)

number_with_ok : (before each most : ℕ) (o : Option ℕ) (n : ℕ) → number_with before each most o ≡ Some n → (1 ≤ n) × (n ≤ each) × (before + n ≤ most)
number_with_ok before each most o n e = by (number_in 1 each o) refl e
  where
    by : (r : Option ℕ) → number_in 1 each o ≡ r → option_and_then (λ k. if nat_le (before + k) most then Some k else None) r ≡ Some n → (1 ≤ n) × (n ≤ each) × (before + n ≤ most)
    by None is f = absurd (none_some n f)
    by (Some k) is f =
        let within = together_if before most k n (nat_le (before + k) most) refl f
        in let own = number_in_ok 1 each o k is
        in (subst (λ x. 1 ≤ x) within.0 own.0, subst (λ x. x ≤ each) within.0 own.1, within.1)

-- the number of a word of at least 1, and that of the word behind it
abbrev pub AreBoth : ℕ → ℕ → Option Given → Type 0
AreBoth each most given = (1 ≤ before_in given) × (1 ≤ own_in given) × (own_in given ≤ each) × (before_in given + own_in given ≤ most)

both_read : (least most each most_both : ℕ) (a b c d : Given) (first : Param) (second : Param) → 1 ≤ least → first.reads ≡ NumberFrom least most → second.reads ≡ NumberWith each most_both
    → WordRead first (a ∷ b ∷ []) c → WordRead second (a ∷ b ∷ c ∷ []) d → AreBoth each most_both (Some d)
both_read least most each most_both a b c d first second some from with_ one two =
    let own = or_ok no.BadNumber Number (number_in least most (number_of one.word)) c (sym (ap (λ r. read r one.nth (a ∷ b ∷ []) one.word) from) ∙ one.reads)
    in let both = or_ok no.BadNumber (λ n. Both (last_number (a ∷ b ∷ c ∷ [])) n) (number_with (last_number (a ∷ b ∷ c ∷ [])) each most_both (number_of two.word)) d
    (sym (ap (λ r. read r two.nth (a ∷ b ∷ c ∷ []) two.word) with_) ∙ two.reads)
    in let last : last_number (a ∷ b ∷ c ∷ []) ≡ own.0 = ap (λ g. number_from (Some g)) (sym own.2)
    in let low = number_in_ok least most (number_of one.word) own.0 own.1
    in let bounds = number_with_ok (last_number (a ∷ b ∷ c ∷ [])) each most_both (number_of two.word) both.0 both.1
    in subst (λ g. AreBoth each most_both (Some g)) both.2 (omega (arith, last, low.0, some), bounds.0, bounds.1, bounds.2)

-- of a form of four words, the third and the fourth of which are such
pub four_read : (least most each most_both : ℕ) (p q first second : Param) (words : List Given) → 1 ≤ least → first.reads ≡ NumberFrom least most → second.reads ≡ NumberWith each most_both
    → WordsRead (p ∷ q ∷ first ∷ second ∷ []) [] words → AreBoth each most_both (slice_get words 3)
four_read least most each most_both p q first second words some from with_ r =
    subst (λ w. AreBoth each most_both (slice_get w 3)) (sym r.2.2.2.2)
    (both_read least most each most_both r.0 r.2.0 r.2.2.0 r.2.2.2.0 first second some from with_ r.2.2.1 r.2.2.2.1)
