-- Words that are taken one after another.
use Rattle.std.proofs.Common.{◌≡◌, ◌<◌, ◌+◌, ◌-◌, ℕ, suc, List, [], ◌∷◌, ◌++◌, Option, Some, None, sym, ◌∙◌, ap, arith}
use Rattle.std.specs.Option.{option_map}
use Rattle.ov_model.specs.Words.{Next, NoWord, Word, Unclosed, next_word, with_words, words_up_to}
use Rattle.ov_cmd.proofs.Lists.{joined, append_nil}

-- these words, and then more
abbrev pub and_more : List (List ℕ) → Option (List (List ℕ)) → Option (List (List ℕ))
and_more words more = option_map (λ ws. words ++ ws) more

one_step : (n i : ℕ) (rest : List ℕ) (next : Next) → i < n → next ≡ next_word rest → words_up_to (n - i) rest ≡ with_words (words_up_to (n - (i + 1))) next
one_step n i rest next lt is =
    let e : n - i ≡ suc (n - (i + 1)) = omega arith in
    ap (λ k. words_up_to k rest) e ∙ ap (with_words (words_up_to (n - (i + 1)))) (sym is)

pub one_more : (n i : ℕ) (words : List (List ℕ)) (rest word behind : List ℕ) (all : Option (List (List ℕ))) → i < n → Word word behind ≡ next_word rest → and_more words (words_up_to (n - i) rest) ≡ all → and_more (words ++ word ∷ []) (words_up_to (n - (i + 1)) behind) ≡ all
one_more n i words rest word behind all lt is so_far =
    sym (joined words word (words_up_to (n - (i + 1)) behind))
    ∙ sym (ap (and_more words) (one_step n i rest (Word word behind) lt is))
    ∙ so_far

pub no_more : (n i : ℕ) (words : List (List ℕ)) (rest : List ℕ) (all : Option (List (List ℕ))) → i < n → NoWord ≡ next_word rest → and_more words (words_up_to (n - i) rest) ≡ all → Some words ≡ all
no_more n i words rest all lt is so_far =
    ap Some (sym (append_nil words)) ∙ sym (ap (and_more words) (one_step n i rest NoWord lt is)) ∙ so_far

pub not_closed : (n i : ℕ) (words : List (List ℕ)) (rest : List ℕ) (all : Option (List (List ℕ))) → i < n → Unclosed ≡ next_word rest → and_more words (words_up_to (n - i) rest) ≡ all → None ≡ all
not_closed n i words rest all lt is so_far = sym (ap (and_more words) (one_step n i rest Unclosed lt is)) ∙ so_far

pub all_taken : (n i : ℕ) (words : List (List ℕ)) (rest : List ℕ) (all : Option (List (List ℕ))) → n - i ≡ 0 → and_more words (words_up_to (n - i) rest) ≡ all → Some words ≡ all
all_taken n i words rest all end so_far =
    ap Some (sym (append_nil words)) ∙ sym (ap (λ k. and_more words (words_up_to k rest)) end) ∙ so_far
