-- From what `clap` proposes to the answer.
use Rattle.std.proofs.Common.{◌≡◌, ℕ, true, List, [], ◌∷◌, Option, Some, None, codes, refl, sym, ◌∙◌, subst, inl, inr}
use Rattle.clap.specs.Words.{first_of, matches_of, takes}
use Rattle.ov_args.specs.Command.{the_command}
use Rattle.ov_args.specs.Words.{folder_of, options_of}
use Rattle.ov_args.specs.Forms.{HasForm, alone, then_number, after_number, then_joined, after_joined}
use Rattle.ov_args.specs.Proposed.{steps_of, Spells, Proposes}
use Rattle.ov_args.proofs.Forms.{form_of_options, no_hyphen, digit_first}
use Rattle.ov_args.proofs.OnForms.{Reads, reads-alone, reads-then_number, reads-after_number, reads-then_joined, reads-after_joined}

-- ---- what `clap` reads where the words have a form

pub record IsRead (words : List (List ℕ)) (folder : List ℕ) (steps : ℕ) : Type 0 where
  pub text : Option (List ℕ)
  pub reads : Reads words folder text
  pub spelled : Spells words folder text
  pub named : folder_of folder ≡ Some folder
  pub number : steps_of text ≡ Some steps

pub form_is_read : (words : List (List ℕ)) (f : List ℕ) (n : ℕ) → HasForm words f n → IsRead words f n
form_is_read _ _ _ (alone [] h) = absurd cc
form_is_read _ _ _ (alone (x ∷ f) h) = record { text = None; reads = reads-alone x f (no_hyphen x f (x ∷ f) h); spelled = refl; named = h; number = refl }
form_is_read _ _ _ (then_number [] d n h k) = absurd cc
form_is_read _ _ _ (then_number (x ∷ f) [] n h k) = absurd cc
form_is_read _ _ _ (then_number (x ∷ f) (y ∷ d) n h k) = record {
  text = Some (y ∷ d);
  reads = reads-then_number x f y d (no_hyphen x f (x ∷ f) h) (digit_first y d n k);
  spelled = inl (refl, refl, refl);
  named = h;
  number = k;
}
form_is_read _ _ _ (after_number [] d n h k) = absurd cc
form_is_read _ _ _ (after_number (x ∷ f) [] n h k) = absurd cc
form_is_read _ _ _ (after_number (x ∷ f) (y ∷ d) n h k) = record {
  text = Some (y ∷ d);
  reads = reads-after_number x f y d (no_hyphen x f (x ∷ f) h) (digit_first y d n k);
  spelled = inr (refl, refl, refl);
  named = h;
  number = k;
}
form_is_read _ _ _ (then_joined [] d n h k) = absurd cc
form_is_read _ _ _ (then_joined (x ∷ f) d n h k) = record {
  text = Some d;
  reads = reads-then_joined x f d (no_hyphen x f (x ∷ f) h);
  spelled = inl (refl, refl);
  named = h;
  number = k;
}
form_is_read _ _ _ (after_joined [] d n h k) = absurd cc
form_is_read _ _ _ (after_joined (x ∷ f) d n h k) = record {
  text = Some d;
  reads = reads-after_joined x f d (no_hyphen x f (x ∷ f) h);
  spelled = inr (refl, refl);
  named = h;
  number = k;
}

pub options_are_read : (words : List (List ℕ)) (f : List ℕ) (n : ℕ) → options_of words ≡ Some (f, n) → IsRead words f n
options_are_read words f n e = form_is_read words f n (form_of_options words f n e)

-- ---- what asks for nothing

pub asks_nothing : (words : List (List ℕ)) → ((f : List ℕ) (n : ℕ) → options_of words ≡ Some (f, n) → ⊥) → options_of words ≡ None
asks_nothing words never = by (options_of words) refl
  where
    by : (o : Option (List ℕ × ℕ)) → options_of words ≡ o → o ≡ None
    by None e = refl
    by (Some p) e = absurd (never p.0 p.1 e)

-- ---- what `clap` reads is a proposal

pub read_is_proposed : (words : List (List ℕ)) (f : List ℕ) (s : Option (List ℕ)) → first_of (codes "folder") (matches_of the_command words) ≡ Some f
    → first_of (codes "steps") (matches_of the_command words) ≡ s → Proposes words f s
read_is_proposed words f s folder_read text_read folder n e =
    let r = options_are_read words folder n e in
    let both : Some f ≡ Some folder = sym folder_read ∙ r.reads.folder_read in
    let same : f ≡ folder = cc in
    subst (λ g. (g ≡ folder) × Spells words g s × (folder_of g ≡ Some g) × (steps_of s ≡ Some n)) (sym same)
    (subst (λ t. (folder ≡ folder) × Spells words folder t × (folder_of folder ≡ Some folder) × (steps_of t ≡ Some n)) (sym (sym text_read ∙ r.reads.text_read))
    (refl, r.spelled, r.named, r.number))

pub unread_asks_nothing : (words : List (List ℕ)) → first_of (codes "folder") (matches_of the_command words) ≡ None → options_of words ≡ None
unread_asks_nothing words unread = asks_nothing words (λ f n e.
    let r = options_are_read words f n e in
    let bad : None ≡ Some f = sym unread ∙ r.reads.folder_read in
    absurd cc)

pub untaken_asks_nothing : (words : List (List ℕ)) → (takes the_command words ≡ true → ⊥) → options_of words ≡ None
untaken_asks_nothing words untaken = asks_nothing words (λ f n e. untaken (options_are_read words f n e).reads.taken)

-- ---- what is proposed but not spelled, or names no folder or number

pub unlike_asks_nothing : (words : List (List ℕ)) (f : List ℕ) (s : Option (List ℕ)) → Proposes words f s
    → (Spells words f s → folder_of f ≡ Some f → steps_of s ≡ None) → options_of words ≡ None
unlike_asks_nothing words f s proposes unlike = asks_nothing words (λ folder n e.
    let p = proposes folder n e in
    let bad : None ≡ Some n = sym (unlike p.1 p.2) ∙ p.3 in
    absurd cc)
