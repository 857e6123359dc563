-- Kinds that were found, in front of those to come.
use Rattle.std.proofs.Common.{◌≡◌, ◌<◌, ◌+◌, ◌++◌, ◌∷◌, ◌∙◌, [], ℕ, List, ap, refl, sym, length, map, drop, get_or, suc, add-one, drop-cons}
use Rattle.std.proofs.Math.Seq.{append_snoc}
use Rattle.std.specs.Prelude.{Result, Ok, Err}
use Rattle.ov_value.specs.declared.column.Kind.{Kind}
use Rattle.ov_value.specs.Shapes.{Shape}
use Rattle.ov_model.specs.declared.query.Col.{Col}
use Rattle.ov_model.specs.declared.query.Key.{Key}
use Rattle.ov_model.specs.Kinds.{Place, and_then, col_kind, cols_kinds, onto_kinds, term_kind, terms_kinds}
use Rattle.ov_model.specs.declared.refusal.Refusal.{Refusal}

abbrev pub behind : List Kind → Result (List Kind) Refusal → Result (List Kind) Refusal
behind found (Ok later) = Ok (found ++ later)
behind found (Err refusal) = Err refusal

-- one kind more
pub behind-onto : (found : List Kind) (kind : Kind) (later : Result (List Kind) Refusal)
    → behind found (onto_kinds kind later) ≡ behind (found ++ kind ∷ []) later
behind-onto found kind (Ok later) = ap (λ l. Ok l) (sym (append_snoc found kind later))
behind-onto found kind (Err refusal) = refl

-- the column at a place has this kind
pub cols-more : (schema : Shape) (cols : List Col) (i : ℕ) (col : Col) (kind : Kind) (found : List Kind) → i < length cols → col ≡ get_or cols i col
    → col_kind schema col ≡ Ok kind → cols_kinds schema cols ≡ behind found (cols_kinds schema (drop i cols))
    → cols_kinds schema cols ≡ behind (found ++ kind ∷ []) (cols_kinds schema (drop (i + 1) cols))
cols-more schema cols i col kind found lt is has e =
    let here : drop i cols ≡ col ∷ drop (i + 1) cols = rw (add-one i) (drop-cons cols i col lt ∙ ap (λ x. x ∷ drop (suc i) cols) (sym is)) in
    let rest = cols_kinds schema (drop (i + 1) cols) in
    e ∙ ap (λ l. behind found (cols_kinds schema l)) here
    ∙ ap (λ k. behind found (and_then k (λ of. onto_kinds of rest))) has ∙ behind-onto found kind rest

-- the term of the key at a place has this kind
pub keys-more : (place : Place) (keys : List Key) (i : ℕ) (k : Key) (kind : Kind) (found : List Kind) → i < length keys → k ≡ get_or keys i k
    → term_kind place k.term ≡ Ok kind → terms_kinds place (map (λ key. key.term) keys) ≡ behind found (terms_kinds place (map (λ key. key.term) (drop i keys)))
    → terms_kinds place (map (λ key. key.term) keys) ≡ behind (found ++ kind ∷ []) (terms_kinds place (map (λ key. key.term) (drop (i + 1) keys)))
keys-more place keys i k kind found lt is has e =
    let here : drop i keys ≡ k ∷ drop (i + 1) keys = rw (add-one i) (drop-cons keys i k lt ∙ ap (λ x. x ∷ drop (suc i) keys) (sym is)) in
    let rest = terms_kinds place (map (λ (key : Key). key.term) (drop (i + 1) keys)) in
    e ∙ ap (λ l. behind found (terms_kinds place (map (λ (key : Key). key.term) l))) here
    ∙ ap (λ k. behind found (and_then k (λ of. onto_kinds of rest))) has ∙ behind-onto found kind rest
