-- What lists in place of lineages say: the same as the lineages, over whatever relatives.
--     SaysAs related old new      a condition without lineages that says what the old one says of these relatives
--     IsResolved parents query resolved      so a query
--     Refuses answer refusal      an answer, or this refusal of a lineage, or memory was wanting
use Rattle.std.specs.Prelude.{◌≡◌, ℕ, List, [], length, Option, Some, None, Result, Ok, Err, IfSome, map}
use Rattle.ov_value.specs.Shapes.{Shape}
use Rattle.ov_model.specs.Answers.{Related, Pair, answer, truth}
use Rattle.ov_model.specs.Asking.{cond_lineages, lineages_of, listed_refusal}
use Rattle.ov_model.specs.Kinds.{Place, counted, kinds}
use Rattle.ov_model.specs.Lists.{joined}
use Rattle.ov_model.specs.declared.answer.Cell.{Cell}
use Rattle.ov_model.specs.declared.query.Cond.{Cond}
use Rattle.ov_model.specs.declared.query.Query.{Query}
use Rattle.ov_model.specs.declared.query.Src.{Src}
use Rattle.ov_model.specs.declared.query.Src.TheVariants as source
use Rattle.ov_model.specs.declared.query.Term.{Term}
use Rattle.ov_model.specs.declared.refusal.Refusal.{Refusal}
use Rattle.ov_model.specs.declared.refusal.Refusal.TheVariants as no
use Rattle.ov_lineage.specs.Related.{relatives_by}
use Rattle.ov_lineage.specs.declared.resolve_err.ResolveErr.{ResolveErr}
use Rattle.ov_lineage.specs.declared.resolve_err.ResolveErr.TheVariants as why

abbrev pub source_by : Related → Src → Src
source_by related (source.Listed vids name) = source.Listed vids name
source_by related (source.Whole name) = source.Whole name
source_by related (source.Lineage kind vid name) = source.Listed (related kind vid) name

pub record SaysAs (related : Related) (old new : Cond) : Type 0 where
  pub free : cond_lineages new ≡ []
  pub truths : (term : Term → Cell) (other : Related) → truth (record { term = term; related = other }) new ≡ truth (record { term = term; related = related }) old
  pub counts : (place : Place) → counted place new ≡ counted place old

-- one after another
pub record AllSayAs (related : Related) (old new : List Cond) : Type 0 where
  pub free : joined (map cond_lineages new) ≡ []
  pub truths : (term : Term → Cell) (other : Related) → map (truth (record { term = term; related = other })) new ≡ map (truth (record { term = term; related = related })) old
  pub counts : (place : Place) → map (counted place) new ≡ map (counted place) old

-- WHERE or HAVING
abbrev pub GuardSaysAs : Related → Option Cond → Option Cond → Type 0
GuardSaysAs related None new = new ≡ None
GuardSaysAs related (Some old) None = ⊥
GuardSaysAs related (Some old) (Some new) = SaysAs related old new

pub record IsResolved (parents : List (List ℕ)) (query resolved : Query) : Type 0 where
  pub source : resolved.source ≡ source_by (relatives_by parents) query.source
  pub free : lineages_of resolved ≡ []
  -- what stands for a lineage is listed in order
  pub same_listed : listed_refusal (length parents) resolved.source ≡ listed_refusal (length parents) query.source
  pub same_kinds : (schema : Shape) → kinds resolved schema ≡ kinds query schema
  pub same_rows : (schema : Shape) (other : Related) (all : List Pair) → answer resolved schema other all ≡ answer query schema (relatives_by parents) all

abbrev pub refusal_of : ResolveErr → Option Refusal
refusal_of (why.NoVersion vid) = Some (no.NoVersion vid)
refusal_of why.Memory = None

abbrev pub Refuses : {X : Type 0} → Result X ResolveErr → Option Refusal → Type 0
Refuses (Ok x) refusal = refusal ≡ None
Refuses (Err why) refusal = IfSome (refusal_of why) (λ first. refusal ≡ Some first)
