-- The forms of the commands, one by one: what they read, of all commands of the product.
use Rattle.std.proofs.Common.{◌≡◌, ◌≤◌, ◌^◌, ℕ, Bool, true, false, ◌==◌, List, [], ◌∷◌, length, refl, subst, inl, inr, arith}
use Rattle.std.specs.Prelude.{◌≢◌, if◌then◌else◌, codes, Option, Some, None, Result, Ok, Err}
use Rattle.ov_value.specs.declared.column.Column.{Column}
use Rattle.ov_value.specs.Making.{schema_of}
use Rattle.ov_value.specs.Naming.{is_name}
use Rattle.ov_value.specs.Shapes.{Shape}
use Rattle.ov_model.specs.Formed.{AllAsk, AsksSo, IsAsked}
use Rattle.ov_model.specs.Forms.{Choice, Values, text_in, vids_in, columns_in, names_in, before_in, own_in, word_of, choice, or_schema_refusal, init_with, make_init, some_columns, commit_with, alone, of_cvd, of_name, init_form, checkout_form, commit_form, commit_staged_form, run_form, optimize_by, optimize_form, advise_form, migrate_form, generate_form, unstage_form, file_or_table, threshold_or_budget, may_have, all_forms}
use Rattle.ov_model.specs.Line.{line_of}
use Rattle.ov_model.specs.Values.{number_from}
use Rattle.ov_model.specs.declared.command.Command.{Command}
use Rattle.ov_model.specs.declared.command.Command.TheVariants as asks
use Rattle.ov_model.specs.declared.given.Given.{Given}
use Rattle.ov_model.specs.declared.given.Reading.TheVariants.{SchemaItems}
use Rattle.ov_model.specs.declared.refusal.Refusal.{Refusal}
use Rattle.ov_model.specs.declared.refusal.Refusal.TheVariants as no
use Rattle.ov_model.proofs.FormValues.{AreBoth, AllRead, four_read, versions_there, message_short}
use Rattle.ov_model.proofs.Forming.{AreForms, IsForm, IsMade, all_well, line_well}

-- options may be written as they like
abbrev pub Any : List ℕ → Type 0
Any letter = Unit {0}

off : {A : Type 0} → false ≡ true → A
off e = cc

on : {A : Type 0} → true ≡ false → A
on e = cc

init_if : (t : Bool) (cvd file : List ℕ) (shape : Result Shape Refusal) (refusal : Refusal) → is_name cvd ≡ t → IsMade IsAsked (if t then init_with cvd file shape else Err refusal)
init_if true cvd file (Ok schema) refusal named = named
init_if true cvd file (Err other) refusal named = tt
init_if false cvd file shape refusal named = tt

init_made : (v : Values) → IsMade IsAsked (make_init v)
init_made v =
    init_if (is_name (text_in (word_of v 0))) (text_in (word_of v 0)) (text_in (choice v (codes "-f")))
    (or_schema_refusal (schema_of (columns_in (choice v (codes "-s"))) (names_in (choice v (codes "-k"))))) (no.BadName (text_in (word_of v 0))) refl

pub init_is : IsForm Any IsAsked init_form
init_is = record {
  reads = (
    record { versions = λ e. off e; message = λ e. off e; written = refl; may = tt },
    (
      record { versions = λ e. off e; message = λ e. off e; written = refl; may = tt },
      (record { versions = λ e. off e; message = λ e. off e; written = refl; may = tt }, tt),
    ),
  );
  makes = λ plain v none good words. init_made v;
  whole = λ e. off e;
}

pub checkout_is : (more : List Choice) → AllRead Any more → IsForm Any IsAsked (checkout_form more)
checkout_is more reads = record {
  reads = (record { versions = λ e. refl; message = λ e. off e; written = refl; may = tt }, reads);
  makes = λ plain v none good words. versions_there Any v.options _ good none;
  whole = λ e. off e;
}

no_columns : (columns : List Column) → (length columns == 0) ≡ false → Some columns ≡ Some [] → ⊥
no_columns columns some e = by (subst (λ cs. (length cs == 0) ≡ false) (same e) some)
  where
    same : Some columns ≡ Some [] → columns ≡ []
    same f = cc

    by : true ≡ false → ⊥
    by f = cc

none_added : (columns : List Column) → None ≡ Some columns → ⊥
none_added columns e = cc

commit_if : (v : Values) (columns : List Column) (t : Bool) → (length columns == 0) ≡ t → vids_in (choice v (codes "-v")) ≢ [] → length (text_in (choice v (codes "-m"))) ≤ 1024
    → IsMade IsAsked (commit_with v (if t then Err no.NoColumns else Ok (Some columns)))
commit_if v columns true e vids message = tt
commit_if v columns false e vids message = (vids, message, no_columns columns e)

commit_made : (v : Values) (given : Option Given) → vids_in (choice v (codes "-v")) ≢ [] → length (text_in (choice v (codes "-m"))) ≤ 1024 → IsMade IsAsked (commit_with v (some_columns given))
commit_made v None vids message = (vids, message, none_added [])
commit_made v (Some given) vids message =
    commit_if v (columns_in (Some given)) (length (columns_in (Some given)) == 0) refl vids message

pub commit_is : (more : List Choice) → AllRead Any more → IsForm Any IsAsked (commit_form more)
commit_is more reads = record {
  reads = (
    record { versions = λ e. refl; message = λ e. off e; written = refl; may = tt },
    (
      record { versions = λ e. off e; message = λ e. off e; written = refl; may = tt },
      (record { versions = λ e. off e; message = λ e. inl refl; written = refl; may = tt }, reads),
    ),
  );
  makes = λ plain v none good words.
      commit_made v (choice v (codes "-a")) (versions_there Any v.options _ good none) (message_short Any v.options good);
  whole = λ e. off e;
}

staged_is : IsForm Any IsAsked commit_staged_form
staged_is = record {
  reads = (
    record { versions = λ e. off e; message = λ e. off e; written = refl; may = tt },
    (record { versions = λ e. off e; message = λ e. inl refl; written = refl; may = tt }, tt),
  );
  makes = λ plain v none good words. message_short Any v.options good;
  whole = λ e. off e;
}

pub run_is : IsForm Any IsAsked run_form
run_is = record { reads = tt; makes = λ plain. on plain; whole = λ e text short. short }

optimize_made : (cvd : List ℕ) (ratio budget : Option Given) → IsMade IsAsked (Ok (optimize_by cvd ratio budget))
optimize_made cvd (Some ratio) budget = tt
optimize_made cvd None budget = tt

pub optimize_is : (choices : List Choice) → AllRead Any choices → IsForm Any IsAsked (optimize_form choices)
optimize_is choices reads = record {
  reads = reads;
  makes = λ plain v none good words. optimize_made (text_in (word_of v 0)) (choice v (codes "-d")) (choice v (codes "-s"));
  whole = λ e. off e;
}

advise_is : IsForm Any IsAsked advise_form
advise_is = record {
  reads = (
    record { versions = λ e. off e; message = λ e. off e; written = refl; may = tt },
    (record { versions = λ e. off e; message = λ e. inr refl; written = refl; may = tt }, tt),
  );
  makes = λ plain v none good words. tt;
  whole = λ e. off e;
}

pub migrate_is : IsForm Any IsAsked migrate_form
migrate_is = record { reads = tt; makes = λ plain v none good words. tt; whole = λ e. off e }

pub cvd_is : (name : List ℕ) (ask : List ℕ → Command) → ((cvd : List ℕ) → IsAsked (ask cvd)) → IsForm Any IsAsked (of_cvd name ask)
cvd_is name ask is = record { reads = tt; makes = λ plain v none good words. is (text_in (word_of v 0)); whole = λ e. off e }

name_is : (name : List ℕ) (ask : List ℕ → Command) → ((user : List ℕ) → IsAsked (ask user)) → IsForm Any IsAsked (of_name name ask)
name_is name ask is = record { reads = tt; makes = λ plain v none good words. is (text_in (word_of v 0)); whole = λ e. off e }

pub alone_is : (name : List ℕ) (ask : Command) → IsAsked ask → IsForm Any IsAsked (alone name ask)
alone_is name ask is = record { reads = tt; makes = λ plain v none good words. is; whole = λ e. off e }

generate_if : (t : Bool) (cvd : List ℕ) (seed : ℕ) (given : Option Given) (refusal : Refusal) → is_name cvd ≡ t → AreBoth 65535 1000000 given
    → IsMade IsAsked (if t then Ok (asks.Generate cvd seed (before_in given) (own_in given)) else Err refusal)
generate_if true cvd seed given refusal named both = (named, both.0, both.1, both.2, both.3)
generate_if false cvd seed given refusal named both = tt

pub generate_is : IsForm Any IsAsked generate_form
generate_is = record {
  reads = tt;
  makes = λ plain v none good words.
      generate_if (is_name (text_in (word_of v 0))) (text_in (word_of v 0)) (number_from (word_of v 1)) (word_of v 3) (no.BadName (text_in (word_of v 0))) refl
      (four_read 1 (10 ^ 18) 65535 1000000 _ _ _ _ v.words (omega arith) refl refl words);
  whole = λ e. off e;
}

unstage_is : IsForm Any IsAsked unstage_form
unstage_is = record { reads = tt; makes = λ plain v none good words. tt; whole = λ e. off e }

table_read : AllRead Any file_or_table
table_read = (
  record { versions = λ e. off e; message = λ e. off e; written = refl; may = tt },
  (record { versions = λ e. off e; message = λ e. off e; written = refl; may = tt }, tt),
)

added_read : AllRead Any (may_have (codes "-a") SchemaItems ∷ [])
added_read = (record { versions = λ e. off e; message = λ e. off e; written = refl; may = tt }, tt)

budget_read : AllRead Any threshold_or_budget
budget_read = (
  record { versions = λ e. off e; message = λ e. off e; written = refl; may = tt },
  (record { versions = λ e. off e; message = λ e. off e; written = refl; may = tt }, tt),
)

all_are : AreForms Any IsAsked all_forms
all_are = (
  init_is,
  (
    checkout_is file_or_table table_read,
    (
      staged_is,
      (
        commit_is (may_have (codes "-a") SchemaItems ∷ []) added_read,
        (
          run_is,
          (
            optimize_is threshold_or_budget budget_read,
            (
              advise_is,
              (
                migrate_is,
                (
                  cvd_is (codes "layout") asks.Layout (λ cvd. tt),
                  (
                    cvd_is (codes "log") asks.Log (λ cvd. tt),
                    (
                      cvd_is (codes "drop") asks.DropCvd (λ cvd. tt),
                      (
                        alone_is (codes "ls") asks.Ls tt,
                        (
                          alone_is (codes "checkpoint") asks.Checkpoint tt,
                          (
                            alone_is (codes "whoami") asks.Whoami tt,
                            (
                              alone_is (codes "tables") asks.Tables tt,
                              (
                                generate_is,
                                (
                                  name_is (codes "create_user") asks.CreateUser (λ user. tt),
                                  (
                                    name_is (codes "config") asks.Config (λ user. tt),
                                    (
                                      unstage_is,
                                      tt,
                                    ),
                                  ),
                                ),
                              ),
                            ),
                          ),
                        ),
                      ),
                    ),
                  ),
                ),
              ),
            ),
          ),
        ),
      ),
    ),
  ),
)

pub line_asks : (text : List ℕ) → AsksSo IsAsked (line_of all_forms text)
line_asks text = line_well Any IsAsked all_forms text all_are

pub all_ask : (lines : List (List ℕ)) → AllAsk IsAsked all_forms lines
all_ask lines = all_well Any IsAsked all_forms lines all_are
