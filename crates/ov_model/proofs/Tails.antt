-- ORDER BY, LIMIT and the end: reading and the grammar.
use Rattle.std.proofs.Common.{◌≡◌, ◌⊎◌, inl, inr, ℕ, pos, Bool, true, false, List, [], ◌∷◌, ◌++◌, Option, Some, None, refl, sym, ap, subst, ◌∙◌, append_assoc}
use Rattle.std.proofs.lemmas.Bool.{false≢true}
use Rattle.std.proofs.lemmas.List.{append-nil}
use Rattle.ov_model.specs.declared.query.Term.{Term}
use Rattle.ov_model.specs.declared.query.Key.{Key}
use Rattle.ov_model.specs.declared.query.Cond.{Cond}
use Rattle.ov_model.specs.declared.query.Fixed.{Fixed}
use Rattle.ov_model.specs.declared.query.Fixed.TheVariants as f
use Rattle.ov_model.specs.declared.query.Symbol.{Symbol}
use Rattle.ov_model.specs.declared.query.Symbol.TheVariants.{Fixed as fixed, Number}
use Rattle.ov_model.specs.Grammar.{Joined, IsGuard, IsDirection, IsKey, IsOrder, IsLimit, IsEnd}
use Rattle.ov_model.specs.Reading.{Reading, or_else, same_word, eaten, list_at, count_at, direction_at, key_at, ordered_at, order_at, limit_at, is_nothing, is_end, tail_at}
use Rattle.ov_model.proofs.Eaten.{eaten-some, eaten-there, eaten-other}
use Rattle.ov_model.proofs.Readers.{bind_some, chosen, guard_kept, Took, Avoids, IsReader, MayFollow, list_reader}
use Rattle.ov_model.proofs.Terms.{count_reader}

-- ---- sections, which may be missing

-- nothing, or it begins with this keyword or sign
abbrev pub IsSection : Fixed → List Symbol → Type 0
IsSection word symbols = (symbols ≡ []) ⊎ ((more : List Symbol) × (symbols ≡ fixed word ∷ more))

pub skipped : (word begin : Fixed) (section rest : List Symbol) → IsSection begin section → same_word word begin ≡ false → eaten word rest ≡ None → eaten word (section ++ rest) ≡ None
skipped word begin section rest (inl e) other none = rw e none
skipped word begin section rest (inr h) other none = rw h.1 (eaten-other word begin (h.0 ++ rest) other)

eaten-nothing : (word : Fixed) → eaten word [] ≡ None
unfolding eaten
eaten-nothing word = refl

end_section : (symbols : List Symbol) → IsEnd symbols → IsSection f.Semicolon symbols
end_section symbols (inl e) = inl e
end_section symbols (inr e) = inr ([], e)

limit_section : (symbols : List Symbol) (n : Option ℕ) → IsLimit symbols n → IsSection f.Limit symbols
limit_section symbols None e = inl e
limit_section symbols (Some n) e = inr (_, e)

order_section : (by : List Symbol → Term → Type 0) (symbols : List Symbol) (ks : List Key) → IsOrder by symbols ks → IsSection f.Order symbols
order_section by symbols [] e = inl e
order_section by symbols (k ∷ ks) h = inr (_, h.1)

pub guard_section : (word : Fixed) (condition : List Symbol → Cond → Type 0) (symbols : List Symbol) (c : Option Cond) → IsGuard word condition symbols c → IsSection word symbols
guard_section word condition symbols None e = inl e
guard_section word condition symbols (Some c) h = inr (_, h.1)

-- ---- ORDER BY

abbrev direction_parts : List Symbol → Option (List Symbol) → Option (List Symbol) → Bool × List Symbol
direction_parts symbols desc asc = or_else desc (λ rest. (true, rest)) (or_else asc (λ rest. (false, rest)) (false, symbols))

pub record TookDirection (symbols : List Symbol) (x : Bool × List Symbol) : Type 0 where
  used : List Symbol
  parts : symbols ≡ used ++ x.1
  spelled : IsDirection used x.0

direction-by : (symbols : List Symbol) (desc asc : Option (List Symbol)) → eaten f.Desc symbols ≡ desc → eaten f.Asc symbols ≡ asc → TookDirection symbols (direction_parts symbols desc asc)
direction-by symbols (Some rest) asc d a = record { used = fixed f.Desc ∷ []; parts = eaten-some f.Desc symbols rest d; spelled = refl }
direction-by symbols None (Some rest) d a = record { used = fixed f.Asc ∷ []; parts = eaten-some f.Asc symbols rest a; spelled = inr refl }
direction-by symbols None None d a = record { used = []; parts = refl; spelled = inl refl }

direction-takes : (symbols : List Symbol) → TookDirection symbols (direction_at symbols)
unfolding direction_at
direction-takes symbols = direction-by symbols (eaten f.Desc symbols) (eaten f.Asc symbols) refl refl

desc_no_asc : (rest : List Symbol) → eaten f.Desc (fixed f.Asc ∷ rest) ≡ None
unfolding eaten same_word
desc_no_asc rest = refl

direction-again : (used rest : List Symbol) (down : Bool) → IsDirection used down → Avoids (f.Desc ∷ f.Asc ∷ []) rest → direction_at (used ++ rest) ≡ (down, rest)
unfolding direction_at
direction-again used rest true h a = rw (h, eaten-there f.Desc rest) refl
direction-again used rest false (inl h) a = rw (h, a.0, a.1.0) refl
direction-again used rest false (inr h) a = rw (h, desc_no_asc rest, eaten-there f.Asc rest) refl

comma_follows : MayFollow f.Comma (f.Desc ∷ f.Asc ∷ [])
unfolding eaten same_word
comma_follows others = (refl, (refl, tt))

module _ (by : List Symbol → Term → Type 0) (at : Reading Term) (reads : IsReader [] by at) where
  key-takes : (symbols : List Symbol) (x : Key × List Symbol) → key_at at symbols ≡ Some x → Took (IsKey by) symbols x
  unfolding key_at
  key-takes symbols x e =
      let t = bind_some (at symbols) _ x e in
      let took = reads.takes symbols t.0 t.1 in
      let d = direction-takes t.0.1 in
      let same : (record { term = t.0.0; down = (direction_at t.0.1).0 }, (direction_at t.0.1).1) ≡ x = cc (t.2) in
      subst (λ (y : Key × List Symbol). Took (IsKey by) symbols y) same (record {
        used = took.used ++ d.used;
        parts = took.parts ∙ (ap (λ (ss : List Symbol). took.used ++ ss) d.parts ∙ sym (append_assoc took.used d.used (direction_at t.0.1).1));
        spelled = record { before = took.used; direction = d.used; symbols_are = refl; term_is = took.spelled; direction_is = d.spelled };
      })

  key-again : (used rest : List Symbol) (k : Key) → IsKey by used k → Avoids (f.Desc ∷ f.Asc ∷ []) rest → key_at at (used ++ rest) ≡ Some (k, rest)
  unfolding key_at
  key-again used rest k h a =
      let whole : used ++ rest ≡ h.before ++ (h.direction ++ rest) = ap (λ (ss : List Symbol). ss ++ rest) h.symbols_are ∙ append_assoc h.before h.direction rest in
      rw (whole, reads.again h.before (h.direction ++ rest) k.term h.term_is tt, direction-again h.direction rest k.down h.direction_is a) refl

  keys : IsReader (f.Comma ∷ f.Desc ∷ f.Asc ∷ []) (Joined f.Comma (IsKey by)) (list_at f.Comma (key_at at))
  keys = list_reader f.Comma (f.Desc ∷ f.Asc ∷ []) (IsKey by) (key_at at) (record { takes = key-takes; again = key-again }) comma_follows

  order-some : (symbols listed : List Symbol) (ks : List Key) → symbols ≡ fixed f.Order ∷ fixed f.By ∷ listed → Joined f.Comma (IsKey by) listed ks → IsOrder by symbols ks
  order-some symbols listed [] e j = absurd j
  order-some symbols listed (k ∷ ks) e j = (listed, e, j)

  order-takes : (symbols : List Symbol) (x : List Key × List Symbol) → order_at at symbols ≡ Some x → Took (IsOrder by) symbols x
  unfolding order_at ordered_at
  order-takes symbols x e = elim (chosen (eaten f.Order symbols) (ordered_at at) _ x e) [
    | inl o ↦
        let b = bind_some (eaten f.By o.0) _ x o.2 in
        let took = keys.takes b.0 x b.2 in
        record {
          used = fixed f.Order ∷ fixed f.By ∷ took.used;
          parts = eaten-some f.Order symbols o.0 o.1 ∙ ap (λ (ss : List Symbol). fixed f.Order ∷ ss) (eaten-some f.By o.0 b.0 b.1 ∙ ap (λ (ss : List Symbol). fixed f.By ∷ ss) took.parts);
          spelled = order-some _ took.used x.0 refl took.spelled;
        }
    | inr o ↦
        let same : ([], symbols) ≡ x = cc (o.1) in
        subst (λ (y : List Key × List Symbol). Took (IsOrder by) symbols y) same (record { used = []; parts = refl; spelled = refl })
  ]

  order-again : (used rest : List Symbol) (ks : List Key) → IsOrder by used ks → Avoids (f.Order ∷ f.Comma ∷ f.Desc ∷ f.Asc ∷ []) rest → order_at at (used ++ rest) ≡ Some (ks, rest)
  unfolding order_at ordered_at
  order-again used rest [] h a = rw (h, a.0) refl
  order-again used rest (k ∷ ks) h a = rw (h.1, eaten-there f.Order (fixed f.By ∷ (h.0 ++ rest)), eaten-there f.By (h.0 ++ rest)) (keys.again h.0 rest (k ∷ ks) h.2 a.1)

-- ---- LIMIT and the end

limit-takes : (symbols : List Symbol) (x : Option ℕ × List Symbol) → limit_at symbols ≡ Some x → Took IsLimit symbols x
unfolding limit_at
limit-takes symbols x e = elim (chosen (eaten f.Limit symbols) _ _ x e) [
  | inl l ↦
      let n = bind_some (count_at l.0) _ x l.2 in
      let took = count_reader.takes l.0 n.0 n.1 in
      let same : (Some n.0.0, n.0.1) ≡ x = cc (n.2) in
      subst (λ (y : Option ℕ × List Symbol). Took IsLimit symbols y) same (record {
        used = fixed f.Limit ∷ Number (pos n.0.0) false ∷ [];
        parts = eaten-some f.Limit symbols l.0 l.1 ∙ ap (λ (ss : List Symbol). fixed f.Limit ∷ ss) (took.parts ∙ ap (λ (ss : List Symbol). ss ++ n.0.1) took.spelled);
        spelled = refl;
      })
  | inr l ↦
      let same : (None, symbols) ≡ x = cc (l.1) in
      subst (λ (y : Option ℕ × List Symbol). Took IsLimit symbols y) same (record { used = []; parts = refl; spelled = refl })
]

limit-again : (used rest : List Symbol) (n : Option ℕ) → IsLimit used n → eaten f.Limit rest ≡ None → limit_at (used ++ rest) ≡ Some (n, rest)
unfolding limit_at
limit-again used rest None h a = rw (h, a) refl
limit-again used rest (Some n) h a =
    let count : count_at (Number (pos n) false ∷ rest) ≡ Some (n, rest) = count_reader.again (Number (pos n) false ∷ []) rest n refl tt in
    rw (h, eaten-there f.Limit (Number (pos n) false ∷ rest), count) refl

nothing-is : (symbols : List Symbol) → is_nothing symbols ≡ true → symbols ≡ []
nothing-is [] e = refl
nothing-is (s ∷ symbols) e = absurd (false≢true e)

end-by : (symbols : List Symbol) (o : Option (List Symbol)) → eaten f.Semicolon symbols ≡ o → or_else o is_nothing (is_nothing symbols) ≡ true → IsEnd symbols
end-by symbols (Some rest) e t = inr (eaten-some f.Semicolon symbols rest e ∙ ap (λ (ss : List Symbol). fixed f.Semicolon ∷ ss) (nothing-is rest t))
end-by symbols None e t = inl (nothing-is symbols t)

end-takes : (symbols : List Symbol) → is_end symbols ≡ true → IsEnd symbols
unfolding is_end
end-takes symbols t = end-by symbols (eaten f.Semicolon symbols) refl t

end-again : (symbols : List Symbol) → IsEnd symbols → is_end symbols ≡ true
unfolding is_end eaten same_word
end-again symbols (inl e) = rw e refl
end-again symbols (inr e) = rw e refl

-- ---- what may stand behind each section

after_limit : (word : Fixed) (ended : List Symbol) → IsEnd ended → same_word word f.Semicolon ≡ false → eaten word ended ≡ None
after_limit word ended h s = ap (eaten word) (sym (append-nil ended)) ∙ skipped word f.Semicolon ended [] (end_section ended h) s (eaten-nothing word)

after_order : (word : Fixed) (limited ended : List Symbol) (n : Option ℕ) → IsLimit limited n → IsEnd ended → same_word word f.Limit ≡ false → same_word word f.Semicolon ≡ false → eaten word (limited ++ ended) ≡ None
after_order word limited ended n l h other s = skipped word f.Limit limited ended (limit_section limited n l) other (after_limit word ended h s)

pub after_groups : (by : List Symbol → Term → Type 0) (word : Fixed) (ordered limited ended : List Symbol) (ks : List Key) (n : Option ℕ) → IsOrder by ordered ks → IsLimit limited n → IsEnd ended → same_word word f.Order ≡ false → same_word word f.Limit ≡ false → same_word word f.Semicolon ≡ false → eaten word (ordered ++ (limited ++ ended)) ≡ None
after_groups by word ordered limited ended ks n o l h first other s = skipped word f.Order ordered (limited ++ ended) (order_section by ordered ks o) first (after_order word limited ended n l h other s)

after_order_all : (limited ended : List Symbol) (n : Option ℕ) → IsLimit limited n → IsEnd ended → Avoids (f.Order ∷ f.Comma ∷ f.Desc ∷ f.Asc ∷ []) (limited ++ ended)
unfolding same_word
after_order_all limited ended n l h =
    (after_order f.Order limited ended n l h refl refl, (after_order f.Comma limited ended n l h refl refl, (after_order f.Desc limited ended n l h refl refl, (after_order f.Asc limited ended n l h refl refl, tt))))

limit_once : (ended : List Symbol) → IsEnd ended → eaten f.Limit ended ≡ None
unfolding same_word
limit_once ended h = after_limit f.Limit ended h refl

-- ---- the whole

pub record TookTail (by : List Symbol → Term → Type 0) (symbols : List Symbol) (x : List Key × Option ℕ) : Type 0 where
  pub ordered : List Symbol
  pub limited : List Symbol
  pub ended : List Symbol
  pub parts : symbols ≡ ordered ++ (limited ++ ended)
  pub order_is : IsOrder by ordered x.0
  pub limit_is : IsLimit limited x.1
  pub end_is : IsEnd ended

module _ (by : List Symbol → Term → Type 0) (at : Reading Term) (reads : IsReader [] by at) where
  pub tail-again : (ordered limited ended : List Symbol) (ks : List Key) (n : Option ℕ) → IsOrder by ordered ks → IsLimit limited n → IsEnd ended → tail_at at (ordered ++ (limited ++ ended)) ≡ Some (ks, n)
  unfolding tail_at
  tail-again ordered limited ended ks n o l h = rw (order-again by at reads ordered (limited ++ ended) ks o (after_order_all limited ended n l h), limit-again limited ended n l (limit_once ended h), end-again ended h) refl

  pub tail-takes : (symbols : List Symbol) (x : List Key × Option ℕ) → tail_at at symbols ≡ Some x → TookTail by symbols x
  unfolding tail_at
  tail-takes symbols x e =
      let o = bind_some (order_at at symbols) _ x e in
      let l = bind_some (limit_at o.0.1) _ x o.2 in
      let k = guard_kept (is_end l.0.1) (o.0.0, l.0.0) x l.2 in
      let took = order-takes by at reads symbols o.0 o.1 in
      let limit = limit-takes o.0.1 l.0 l.1 in
      subst (λ (y : List Key × Option ℕ). TookTail by symbols y) k.1 (record {
        ordered = took.used;
        limited = limit.used;
        ended = l.0.1;
        parts = took.parts ∙ ap (λ (ss : List Symbol). took.used ++ ss) limit.parts;
        order_is = took.spelled;
        limit_is = limit.spelled;
        end_is = end-takes l.0.1 k.0;
      })
