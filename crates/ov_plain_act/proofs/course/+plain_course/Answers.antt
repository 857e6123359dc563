-- What comes of the first command, and what comes of the others then.
use Rattle.std.proofs.Common.{sym, rules}
use Rattle.ov_plain_act.proofs.Onward.{first_and_others, course_more, course_ready, course_rest}
use Rattle.ov_plain_act.proofs.course.+plain_course.Goals as goal
use Rattle.ov_plain_act.specs.Acts.{session_of}
use Rattle.ov_plain_act.specs.Runs.{IsReady}
use Rattle.ov_plain_act.specs.Small.{IsSmallCommand}

pub returns-in-None-2-clause-plain : goal.returns-in-None-2-clause-plain
returns-in-None-2-clause-plain t c =
    let split = first_and_others c.args.commands.now c.command-item.result c.in-len1-up.len_at_least c.command-item.is
    in (
      λ h. cc,
      λ all.
          (rw c.in-None-2.is at c.in_ok-plain_course-in-Some.ensures.plain).1
          (course_rest c.args.steps c.args.world (session_of c.args.session) c.args.commands.now c.command-item.result c.in-Some.run' split
          (rw c.in-Some.is at c.in_ok-plain_served-in-len1-up.ensures.is) all),
    )

pub returns-clause-is : goal.returns-clause-is
returns-clause-is t c =
    let split = first_and_others c.args.commands.now c.command-item.result c.in-len1-up.len_at_least c.command-item.is
    in course_more c.args.steps c.args.world (session_of c.args.session) c.args.commands.now c.command-item.result c.in-Some.run' c.in-Some-2.later c.in_ok-behind-in-Some-2.field-0 split
    (rw c.in-Some.is at c.in_ok-plain_served-in-len1-up.ensures.is)
    (rw c.in-Some-2.is at c.in_ok-plain_course-in-Some.ensures.is)
    c.in_ok-behind-in-Some-2.ensures

pub returns-clause-plain : goal.returns-clause-plain
returns-clause-plain t c =
    let split = first_and_others c.args.commands.now c.command-item.result c.in-len1-up.len_at_least c.command-item.is
    in let ready : IsReady c.args.world = search rules
    in let small : IsSmallCommand c.command-item.result = search rules
    in (
      λ h. course_ready c.args.steps c.args.world (session_of c.args.session) c.args.commands.now c.command-item.result c.in-Some.run' split ready
          (sym (rw c.in-Some.is at c.in_ok-plain_served-in-len1-up.ensures.plain)) small
          (rw c.in-Some.is at c.in_ok-plain_served-in-len1-up.ensures.is)
          ((rw c.in-Some-2.is at c.in_ok-plain_course-in-Some.ensures.plain).0 h),
      λ all. search rules,
    )
