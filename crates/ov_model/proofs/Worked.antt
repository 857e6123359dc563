-- The worked examples, by computing.
use Rattle.std.proofs.Common.{◌≡◌, ◌++◌, refl}
use Rattle.std.specs.Prelude.{Some, codes}
use lib.Utf8.{encode}
use Rattle.std.specs.Fmt.{digits}
use Rattle.std.specs.Str.{is_utf8, chars}
use Rattle.csv.specs.Machine.{next_record}
use Rattle.csv.specs.Reading.{strip_bom, records_from}
use Rattle.csv.specs.Writing.{escaped, fields_text, is_blank}
use Rattle.ov_graph.specs.Splits.{is_under, stops, may_cut, versions_apart, records_apart, chosen, cuts_within, cuts_of}
use Rattle.ov_value.specs.Making.{name_refusal, column_refusal, key_refusal}
use Rattle.ov_value.specs.Naming.{is_name, is_vid, is_column_name}
use Rattle.ov_value.specs.Spelling.{row_spelling}
use Rattle.ov_model.specs.Examples.{AllPrint, examples, people, plan_examples, printed, printed_behind, served_all}
use Rattle.ov_model.specs.PlanExamples.{plan_behind, second_plan, two_plans}
use Rattle.ov_model.specs.Replies.{line}

-- a first version, and the same again
first : printed (codes "init people -s id:int,name:text,score:int -k id -f a.csv\ninit people -s id:int,name:text,score:int -k id -f a.csv\n") ≡ codes "people: version 1 (2 rows)\nerror 11: people exists\n"
unfolding encode digits is_utf8 chars records_from next_record strip_bom escaped fields_text is_blank is_name is_vid is_column_name name_refusal column_refusal key_refusal row_spelling line
first = refl

empty : printed (codes "init none -s id:int,name:text,score:int -k id -f h.csv\ncheckout none -v 1\n") ≡ codes "none: version 1 (0 rows)\nid,name,score\n"
unfolding encode digits is_utf8 chars records_from next_record strip_bom escaped fields_text is_blank is_name is_vid is_column_name name_refusal column_refusal key_refusal row_spelling line
empty = refl

second : printed (codes "init people -s id:int,name:text,score:int -k id -f a.csv\ncommit people -v 1 -f b.csv -m raise\ncheckout people -v 1,2\ncheckout people -v 2,1\ncheckout people -v 1,2 -f out.csv\n") ≡ codes "people: version 1 (2 rows)\npeople: version 2 (3 rows, 2 new)\nid,name,score\n1,ann,10\n2,bob,20\n3,cy,30\nid,name,score\n1,ann,10\n2,bob,25\n3,cy,30\npeople: 3 rows to out.csv\n"
unfolding encode digits is_utf8 chars records_from next_record strip_bom escaped fields_text is_blank is_name is_vid is_column_name name_refusal column_refusal key_refusal row_spelling line
second = refl

vids : printed (codes "init people -s id:int,name:text,score:int -k id -f a.csv\ncommit people -v 1 -f b.csv -m raise\ncheckout people -v 1,1\ncheckout people -v 9\ncheckout x -v 1\n") ≡ codes "people: version 1 (2 rows)\npeople: version 2 (3 rows, 2 new)\nerror 13: version 1 is repeated\nerror 12: no version 9\nerror 10: no dataset x\n"
unfolding encode digits is_utf8 chars records_from next_record strip_bom escaped fields_text is_blank is_name is_vid is_column_name name_refusal column_refusal key_refusal row_spelling line
vids = refl

parents : printed (codes "init people -s id:int,name:text,score:int -k id -f a.csv\ncommit people -v 1 -f b.csv -m raise\ncommit people -v 2 -f a.csv -m back\ncommit people -v 1,2 -f both.csv -m both\n") ≡ codes "people: version 1 (2 rows)\npeople: version 2 (3 rows, 2 new)\npeople: version 3 (2 rows, 1 new)\npeople: version 4 (3 rows, 0 new)\n"
unfolding encode digits is_utf8 chars records_from next_record strip_bom escaped fields_text is_blank is_name is_vid is_column_name name_refusal column_refusal key_refusal row_spelling line
parents = refl

refused_files : printed (codes "init p -s id:int,name:text,score:int -k id -f twice.csv\ninit p -s id:int,name:text,score:int -k id -f over.csv\ninit p -s id:int,name:text,score:int -k id -f short.csv\ninit p -s id:int,name:text,score:int -k id -f z.csv\ninit p -s id:int,name:text,score:int -k id -f null.csv\n") ≡ codes "error 14: row 2 repeats a key\nerror 33: row 1, column score: not int\nerror 32: row 1 has 2 fields, not 3\nerror 70: no file z.csv\nerror 37: row 1, column id: the key is NULL\n"
unfolding encode digits is_utf8 chars records_from next_record strip_bom escaped fields_text is_blank is_name is_vid is_column_name name_refusal column_refusal key_refusal row_spelling line
refused_files = refl

fields : printed (codes "init p -s id:int,name:text,score:int -k id -f least.csv\ncheckout p -v 1\ninit q -s id:int,name:text,score:int -k id -f comma.csv\ncheckout q -v 1\n") ≡ codes "p: version 1 (1 rows)\nid,name,score\n1,ann,-9223372036854775808\nq: version 1 (1 rows)\nid,name,score\n1,\"a,b\",1\n"
unfolding encode digits is_utf8 chars records_from next_record strip_bom escaped fields_text is_blank is_name is_vid is_column_name name_refusal column_refusal key_refusal row_spelling line
fields = refl

no_text : printed (codes "init p -s id:int,name:text,score:int -k id -f bytes.csv\n") ≡ codes "error 34: row 1 is not UTF-8\n"
unfolding encode digits is_utf8 chars records_from next_record strip_bom escaped fields_text is_blank is_name is_vid is_column_name name_refusal column_refusal key_refusal row_spelling line
no_text = refl

marks : printed (codes "init f -s id:int,ok:flag -k id -f marked.csv\ncheckout f -v 1\ninit g -s id:int,ok:flag -k id -f twice_marked.csv\n") ≡ codes "f: version 1 (2 rows)\nid,ok\n7,true\n8,false\nerror 31: the header differs from the schema\n"
unfolding encode digits is_utf8 chars records_from next_record strip_bom escaped fields_text is_blank is_name is_vid is_column_name name_refusal column_refusal key_refusal row_spelling line
marks = refl

lines_read : printed (codes "init people -s id:int,name:text,score:int -k id -f a.csv\n# note\n\n \t\nfrob\ncheckout people\nls x\n\"ls\" \nls") ≡ codes "people: version 1 (2 rows)\nerror 51: unknown command\nerror 52: missing -v\nerror 53: unexpected word 2\npeople: 1 versions, 2 records\n(1 datasets)\npeople: 1 versions, 2 records\n(1 datasets)\n"
unfolding encode digits is_utf8 chars records_from next_record strip_bom escaped fields_text is_blank is_name is_vid is_column_name name_refusal column_refusal key_refusal row_spelling line
lines_read = refl

dropped : printed (codes "init people -s id:int,name:text,score:int -k id -f a.csv\ndrop people\nls\ninit people -s id:int,name:text,score:int -k id -f a.csv\n") ≡ codes "people: version 1 (2 rows)\npeople: dropped\n(0 datasets)\npeople: version 1 (2 rows)\n"
unfolding encode digits is_utf8 chars records_from next_record strip_bom escaped fields_text is_blank is_name is_vid is_column_name name_refusal column_refusal key_refusal row_spelling line
dropped = refl

listed : printed (codes "init people -s id:int,name:text,score:int -k id -f a.csv\ncommit people -v 1 -f b.csv -m raise\nlog people\nls\n") ≡ codes "people: version 1 (2 rows)\npeople: version 2 (3 rows, 2 new)\nversion 1: 2 rows, 2 new, parents none, init\nversion 2: 3 rows, 2 new, parents 1, raise\npeople: 2 versions, 4 records\n(1 datasets)\n"
unfolding encode digits is_utf8 chars records_from next_record strip_bom escaped fields_text is_blank is_name is_vid is_column_name name_refusal column_refusal key_refusal row_spelling line
listed = refl

schemas : printed (codes "init p -s \"\" -k a -f a.csv\ninit p -s a:int,a:int -k a -f a.csv\ninit p -s a:int -k b -f a.csv\ninit 9x -s a:int -k a -f a.csv\ninit p -s a:real -k a -f a.csv\ninit p -s a:int -k \"\" -f a.csv\n") ≡ codes "error 61: no columns\nerror 64: column a is repeated\nerror 66: no key column b\nerror 63: bad name 9x\nerror 56: column 1 has a bad kind\nerror 65: no key\n"
unfolding encode digits is_utf8 chars records_from next_record strip_bom escaped fields_text is_blank is_name is_vid is_column_name name_refusal column_refusal key_refusal row_spelling line
schemas = refl

nulls : printed (codes "init p -s id:int,name:text,score:int -k id -f n.csv\ncheckout p -v 1\n") ≡ codes "p: version 1 (3 rows)\nid,name,score\n1,ann,\n2,\\N,20\n3,\\\\N,5\n"
unfolding encode digits is_utf8 chars records_from next_record strip_bom escaped fields_text is_blank is_name is_vid is_column_name name_refusal column_refusal key_refusal row_spelling line
nulls = refl

quotes : printed (codes "log \"a b\\\"c\\\\d\\e\"\n") ≡ codes "error 10: no dataset a b\"c\\d\\e\n"
unfolding encode digits is_utf8 chars records_from next_record strip_bom escaped fields_text is_blank is_name is_vid is_column_name name_refusal column_refusal key_refusal row_spelling line
quotes = refl

refused_lines : printed (codes "commit people -v 1, -m x -f b.csv\ncommit people -v 1 -v 1\ncommit people -m \"open\ncheckout people -v 1234567890123456789\ncommit people -v 1 -f \"\" -m x\n") ≡ codes "error 54: bad number\nerror 53: unexpected word 5\nerror 58: a quote is not closed\nerror 54: bad number\nerror 53: unexpected word 6\n"
unfolding encode digits is_utf8 chars records_from next_record strip_bom escaped fields_text is_blank is_name is_vid is_column_name name_refusal column_refusal key_refusal row_spelling line
refused_lines = refl

pub all_print : AllPrint examples
all_print = (first, (empty, (second, (vids, (parents, (refused_files, (fields, (no_text, (marks, (lines_read, (dropped, (listed, (schemas, (nulls, (quotes, (refused_lines, tt))))))))))))))))

one_part : printed (codes "init chain -s k:int,x:int -k k -f c1.csv\ncommit chain -v 1 -f c2.csv -m two\ncommit chain -v 2 -f c3.csv -m three\noptimize chain -d 1/2\nmigrate 5\nlayout chain\n") ≡ codes "chain: version 1 (4 rows)\nchain: version 2 (4 rows, 3 new)\nchain: version 3 (5 rows, 1 new)\ndepth 0, partitions 1, stored 8, records 8, members 13, cost 24, steps 1\nsteps 1 left 0\npartition 2: records 8, versions 1,2,3\nstored 8, cost 24\n"
unfolding encode digits is_utf8 chars records_from next_record strip_bom is_name is_vid is_column_name name_refusal column_refusal key_refusal row_spelling line is_under stops may_cut versions_apart records_apart chosen cuts_within cuts_of
one_part = refl

two_parts : printed (codes "init chain -s k:int,x:int -k k -f c1.csv\ncommit chain -v 1 -f c2.csv -m two\ncommit chain -v 2 -f c3.csv -m three\noptimize chain -d 3/4\nmigrate 1\nlayout chain\nmigrate 9\nlayout chain\n") ≡ codes "chain: version 1 (4 rows)\nchain: version 2 (4 rows, 3 new)\nchain: version 3 (5 rows, 1 new)\ndepth 1, partitions 2, stored 9, records 8, members 13, cost 14, steps 4\nsteps 1 left 3\npartition 1: records 8, versions 1,2,3\nplan 3/4: target 1 of 2, copied 4 of 4, steps 3\nstored 12, cost 24\nsteps 3 left 0\npartition 2: records 4, versions 1\npartition 3: records 5, versions 2,3\nstored 9, cost 14\n"
unfolding encode digits is_utf8 chars records_from next_record strip_bom is_name is_vid is_column_name name_refusal column_refusal key_refusal row_spelling line is_under stops may_cut versions_apart records_apart chosen cuts_within cuts_of
two_parts = refl

while_migrating : printed (codes "init chain -s k:int,x:int -k k -f c1.csv\ncommit chain -v 1 -f c2.csv -m two\ncommit chain -v 2 -f c3.csv -m three\noptimize chain -d 3/4\nmigrate 2\ncommit chain -v 3 -f c4.csv -m four\nmigrate 9\nlayout chain\n") ≡ codes "chain: version 1 (4 rows)\nchain: version 2 (4 rows, 3 new)\nchain: version 3 (5 rows, 1 new)\ndepth 1, partitions 2, stored 9, records 8, members 13, cost 14, steps 4\nsteps 2 left 2\nchain: version 4 (6 rows, 1 new)\nsteps 2 left 0\npartition 2: records 4, versions 1\npartition 3: records 6, versions 4\npartition 4: records 5, versions 2,3\nstored 15, cost 20\n"
unfolding encode digits is_utf8 chars records_from next_record strip_bom is_name is_vid is_column_name name_refusal column_refusal key_refusal row_spelling line is_under stops may_cut versions_apart records_apart chosen cuts_within cuts_of
while_migrating = refl

own_partition : printed (codes "init chain -s k:int,x:int -k k -f c1.csv\ncommit chain -v 1 -f c2.csv -m two\ncommit chain -v 2 -f c3.csv -m three\noptimize chain -d 3/4\nmigrate 9\ncommit chain -v 3 -f c5.csv -m own\nlayout chain\n") ≡ codes "chain: version 1 (4 rows)\nchain: version 2 (4 rows, 3 new)\nchain: version 3 (5 rows, 1 new)\ndepth 1, partitions 2, stored 9, records 8, members 13, cost 14, steps 4\nsteps 4 left 0\nchain: version 4 (2 rows, 1 new)\npartition 2: records 4, versions 1\npartition 3: records 5, versions 2,3\npartition 4: records 2, versions 4\nstored 11, cost 16\n"
unfolding encode digits is_utf8 chars records_from next_record strip_bom is_name is_vid is_column_name name_refusal column_refusal key_refusal row_spelling line is_under stops may_cut versions_apart records_apart chosen cuts_within cuts_of
own_partition = refl

kept_segments : printed (codes "init chain -s k:int,x:int -k k -f c1.csv\ncommit chain -v 1 -f c2.csv -m two\ncommit chain -v 2 -f c3.csv -m three\noptimize chain -d 3/4\nmigrate 3\nlayout chain\n") ≡ codes "chain: version 1 (4 rows)\nchain: version 2 (4 rows, 3 new)\nchain: version 3 (5 rows, 1 new)\ndepth 1, partitions 2, stored 9, records 8, members 13, cost 14, steps 4\nsteps 3 left 1\npartition 1: records 8, versions 2,3\npartition 2: records 4, versions 1\nplan 3/4: target 2 of 2, copied 1 of 1, steps 1\nstored 13, cost 20\n"
unfolding encode digits is_utf8 chars records_from next_record strip_bom is_name is_vid is_column_name name_refusal column_refusal key_refusal row_spelling line is_under stops may_cut versions_apart records_apart chosen cuts_within cuts_of
kept_segments = refl

refused_plans : printed (codes "init chain -s k:int,x:int -k k -f c1.csv\ncommit chain -v 1 -f c2.csv -m two\ncommit chain -v 2 -f c3.csv -m three\noptimize chain -d 5/4\noptimize chain -d 0/1\noptimize chain -d half\noptimize chain -d 3/4\noptimize chain -d 1/2\n") ≡ codes "chain: version 1 (4 rows)\nchain: version 2 (4 rows, 3 new)\nchain: version 3 (5 rows, 1 new)\nerror 17: threshold out of range\nerror 17: threshold out of range\nerror 54: bad number\ndepth 1, partitions 2, stored 9, records 8, members 13, cost 14, steps 4\nerror 18: chain is migrating\n"
unfolding encode digits is_utf8 chars records_from next_record strip_bom is_name is_vid is_column_name name_refusal column_refusal key_refusal row_spelling line is_under stops may_cut versions_apart records_apart chosen cuts_within cuts_of
refused_plans = refl

two_parents : printed (codes "init people -s id:int,name:text,score:int -k id -f a.csv\ncommit people -v 1 -f b.csv -m raise\ncommit people -v 2 -f a.csv -m back\ncommit people -v 1,2 -f both.csv -m both\noptimize people -d 1/1\n") ≡ codes "people: version 1 (2 rows)\npeople: version 2 (3 rows, 2 new)\npeople: version 3 (2 rows, 1 new)\npeople: version 4 (3 rows, 0 new)\ndepth 2, partitions 4, stored 10, records 6, members 10, cost 10, steps 8\n"
unfolding encode digits is_utf8 chars records_from next_record strip_bom is_name is_vid is_column_name name_refusal column_refusal key_refusal row_spelling line is_under stops may_cut versions_apart records_apart chosen cuts_within cuts_of
two_parents = refl

layouts : printed (codes "init people -s id:int,name:text,score:int -k id -f a.csv\ncommit people -v 1 -f b.csv -m raise\nlayout people\ncheckpoint\nmigrate 5\n") ≡ codes "people: version 1 (2 rows)\npeople: version 2 (3 rows, 2 new)\npartition 1: records 4, versions 1,2\nstored 4, cost 8\ncheckpoint: 1 datasets\nsteps 0 left 0\n"
unfolding encode digits is_utf8 chars records_from next_record strip_bom is_name is_vid is_column_name name_refusal column_refusal key_refusal row_spelling line is_under stops may_cut versions_apart records_apart chosen cuts_within cuts_of
layouts = refl

tiny : printed (codes "generate tiny 0 1 1\ngenerate tiny 0 1 1\ngenerate x 0 0 1\n") ≡ codes "tiny: 1 versions, 1 records, 1 members\nerror 11: tiny exists\nerror 54: bad number\n"
unfolding encode digits is_utf8 chars records_from next_record strip_bom is_name is_vid is_column_name name_refusal column_refusal key_refusal row_spelling line is_under stops may_cut versions_apart records_apart chosen cuts_within cuts_of
tiny = refl

generated : printed (codes "generate g 7 3 4\nlog g\ncheckout g -v 4\n") ≡ codes "g: 4 versions, 9 records, 16 members\nversion 1: 3 rows, 3 new, parents none, init\nversion 2: 4 rows, 2 new, parents 1, gen\nversion 3: 4 rows, 2 new, parents 1, gen\nversion 4: 5 rows, 2 new, parents 3, gen\nid,a,b\n1,962,t31\n2,793,t73\n3,545,t19\n6,405,t99\n7,654,t98\n"
unfolding encode digits is_utf8 chars records_from next_record strip_bom escaped fields_text is_blank is_name is_vid is_column_name name_refusal column_refusal key_refusal row_spelling line
generated = refl

widened : printed (codes "init people -s id:int,name:text,score:int -k id -f a.csv\ncommit people -v 1 -f b.csv -m raise\ncommit people -v 2 -f wide.csv -m wide -a team:text\ncheckout people -v 1\ncheckout people -v 3,1\ncommit people -v 3 -f a.csv -m narrow\n") ≡ codes "people: version 1 (2 rows)\npeople: version 2 (3 rows, 2 new)\npeople: version 3 (3 rows, 2 new)\nid,name,score,team\n1,ann,10,\\N\n2,bob,20,\\N\nid,name,score,team\n1,ann,10,\\N\n2,bob,25,red\n3,cy,30,\nerror 31: the header differs from the schema\n"
unfolding encode digits is_utf8 chars records_from next_record strip_bom escaped fields_text is_blank is_name is_vid is_column_name name_refusal column_refusal key_refusal row_spelling line
widened = refl

pub all_plans : AllPrint plan_examples
all_plans = (one_part, (two_parts, (while_migrating, (own_partition, (kept_segments, (refused_plans, (two_parents, (layouts, (tiny, (generated, (widened, tt)))))))))))

pub file_is : (served_all (people ++ codes "checkout people -v 1,2 -f out.csv\n")).session.files (codes "out.csv") ≡ Some (codes "id,name,score\n1,ann,10\n2,bob,20\n3,cy,30\n")
unfolding encode digits is_utf8 chars records_from next_record strip_bom escaped fields_text is_blank is_name is_vid is_column_name name_refusal column_refusal key_refusal row_spelling line
file_is = refl

pub wide_is : printed_behind people (codes "commit people -v 2 -f wide.csv -m wide -a team:text") ≡ codes "people: version 3 (3 rows, 2 new)\n"
unfolding encode digits is_utf8 chars records_from next_record strip_bom escaped fields_text is_blank is_name is_vid is_column_name name_refusal column_refusal key_refusal row_spelling line
wide_is = refl

pub repeated_is : printed_behind people (codes "commit people -v 2 -f wide.csv -m wide -a id:int") ≡ codes "error 64: column id is repeated\n"
unfolding encode digits is_utf8 chars records_from next_record strip_bom escaped fields_text is_blank is_name is_vid is_column_name name_refusal column_refusal key_refusal row_spelling line
repeated_is = refl

pub second_is : plan_behind two_plans ≡ Some second_plan
unfolding encode digits is_utf8 chars records_from next_record strip_bom is_name is_vid is_column_name name_refusal column_refusal key_refusal row_spelling line is_under stops may_cut versions_apart records_apart chosen cuts_within cuts_of
second_is = refl

pub checkpoint_records : (served_all (people ++ codes "checkpoint\n")).world.records ≡ 2
unfolding encode digits is_utf8 chars records_from next_record strip_bom escaped fields_text is_blank is_name is_vid is_column_name name_refusal column_refusal key_refusal row_spelling line
checkpoint_records = refl

pub checkpoint_epoch : (served_all (people ++ codes "checkpoint\n")).world.epoch ≡ 2
unfolding encode digits is_utf8 chars records_from next_record strip_bom escaped fields_text is_blank is_name is_vid is_column_name name_refusal column_refusal key_refusal row_spelling line
checkpoint_epoch = refl
