-- What an error of a part comes to.
--     by_staging made      that of a command of the registry
--     reply_of name off      the reply to a command that the store refused
--     end_of off      why the run ends, where it is no refusal
--     is_nameless off      it is of the host, of memory or of the journal's room, and so of no dataset: a checkpoint's
--     plan_refusal name off, plan_reply name off, plan_end off      these of a plan that didn't begin
--     choose_refusal name budget off, choose_reply name budget off, choose_end off      and where nothing was chosen within a budget
use Rattle.std.specs.Prelude.{ℕ, Bool, true, false, List, Option, Some, None, Result, Ok, Err, option_map}
use Rattle.ov_choose.specs.declared.errors.ChooseErr.{ChooseErr}
use Rattle.ov_choose.specs.declared.errors.ChooseErr.TheVariants as choose
use Rattle.ov_files.specs.declared.errors.FileErr.{FileErr}
use Rattle.ov_files.specs.declared.errors.FileErr.TheVariants as file
use Rattle.ov_model.specs.declared.refusal.Refusal.{Refusal}
use Rattle.ov_model.specs.declared.refusal.Refusal.TheVariants as no
use Rattle.ov_model.specs.declared.reply.Reply.{Reply}
use Rattle.ov_model.specs.declared.reply.Reply.TheVariants as says
use Rattle.ov_staging.specs.declared.errors.StagingErr.{StagingErr}
use Rattle.ov_staging.specs.declared.errors.StagingErr.TheVariants as staging
use Rattle.ov_store.specs.Refusals.{refusal_of}
use Rattle.ov_store.specs.declared.errors.StoreErr.{StoreErr}
use Rattle.ov_store.specs.declared.errors.StoreErr.TheVariants as why
use Rattle.ov_store.specs.declared.plan_errors.PlanErr.{PlanErr}
use Rattle.ov_store.specs.declared.plan_errors.PlanErr.TheVariants as off
use Rattle.ov_session.specs.declared.errors.EndErr.{EndErr}
use Rattle.ov_session.specs.declared.errors.EndErr.TheVariants as ending

abbrev pub by_file : FileErr → EndErr
by_file file.Stage = ending.Stage
by_file file.Memory = ending.Memory

abbrev pub by_staging : Result Reply StagingErr → Result Reply EndErr
by_staging (Ok reply) = Ok reply
by_staging (Err staging.Host) = Err ending.Host
by_staging (Err staging.Memory) = Err ending.Memory
by_staging (Err (staging.Damaged area at)) = Err (ending.Damaged area at)

abbrev pub reply_of : List ℕ → StoreErr → Option Reply
reply_of name off = option_map says.Refused (refusal_of name off)

abbrev pub end_of : StoreErr → Option EndErr
end_of why.Host = Some ending.Host
end_of why.Memory = Some ending.Memory
end_of (why.Damaged area at) = Some (ending.Damaged area at)
end_of _ = None

abbrev pub is_nameless : StoreErr → Bool
is_nameless why.Host = true
is_nameless why.Memory = true
is_nameless why.JournalFull = true
is_nameless _ = false

-- ---- of a plan

-- the refusals in their order: 10, 17, 18, 22, and then 5
abbrev pub plan_refusal : List ℕ → PlanErr → Option Refusal
plan_refusal name off.NoCvd = Some (no.NoCvd name)
plan_refusal name off.BadThreshold = Some no.BadThreshold
plan_refusal name off.Migrating = Some (no.Migrating name)
plan_refusal name off.NoNumbers = Some (no.NoNumbers name)
plan_refusal name off.JournalFull = Some (no.JournalFull None)
plan_refusal name off.Host = None
plan_refusal name off.Memory = None
plan_refusal name (off.Damaged area at) = None

abbrev pub plan_reply : List ℕ → PlanErr → Option Reply
plan_reply name why = option_map says.Refused (plan_refusal name why)

abbrev pub plan_end : PlanErr → Option EndErr
plan_end off.Host = Some ending.Host
plan_end off.Memory = Some ending.Memory
plan_end (off.Damaged area at) = Some (ending.Damaged area at)
plan_end _ = None

-- ---- of a choice within a budget

-- the refusals: 10; 17 of an advice, 18 and 22 of a plan; 21, and then 5
abbrev pub choose_refusal : List ℕ → ℕ → ChooseErr → Option Refusal
choose_refusal name budget choose.NoCvd = Some (no.NoCvd name)
choose_refusal name budget choose.BadThreshold = Some no.BadThreshold
choose_refusal name budget choose.Migrating = Some (no.Migrating name)
choose_refusal name budget choose.NoNumbers = Some (no.NoNumbers name)
choose_refusal name budget (choose.NoThreshold least) = Some (no.NoThreshold budget least)
choose_refusal name budget choose.JournalFull = Some (no.JournalFull None)
choose_refusal name budget choose.Host = None
choose_refusal name budget choose.Memory = None
choose_refusal name budget (choose.Damaged area at) = None

abbrev pub choose_reply : List ℕ → ℕ → ChooseErr → Option Reply
choose_reply name budget why = option_map says.Refused (choose_refusal name budget why)

abbrev pub choose_end : ChooseErr → Option EndErr
choose_end choose.Host = Some ending.Host
choose_end choose.Memory = Some ending.Memory
choose_end (choose.Damaged area at) = Some (ending.Damaged area at)
choose_end _ = None
