-- An error of a part of a choice, as the choice answers it.
--     of_lists off      why lists aren't read; none where it is no error of a call that reads lists
--     of_plan off      why no plan began
use Rattle.std.specs.Prelude.{Option, Some, None}
use Rattle.ov_store.specs.declared.errors.StoreErr.{StoreErr}
use Rattle.ov_store.specs.declared.errors.StoreErr.TheVariants as lists
use Rattle.ov_store.specs.declared.plan_errors.PlanErr.{PlanErr}
use Rattle.ov_store.specs.declared.plan_errors.PlanErr.TheVariants as plan
use Rattle.ov_choose.specs.declared.errors.ChooseErr.{ChooseErr}
use Rattle.ov_choose.specs.declared.errors.ChooseErr.TheVariants as why

abbrev pub of_lists : StoreErr → Option ChooseErr
of_lists lists.Host = Some why.Host
of_lists lists.Memory = Some why.Memory
of_lists (lists.Damaged area at) = Some (why.Damaged area at)
of_lists lists.NoCvd = Some why.NoCvd
of_lists _ = None

abbrev pub of_plan : PlanErr → ChooseErr
of_plan plan.Host = why.Host
of_plan plan.Memory = why.Memory
of_plan (plan.Damaged area at) = why.Damaged area at
of_plan plan.JournalFull = why.JournalFull
of_plan plan.NoCvd = why.NoCvd
of_plan plan.BadThreshold = why.BadThreshold
of_plan plan.Migrating = why.Migrating
of_plan plan.NoNumbers = why.NoNumbers
