-- What each rule says, for people: what is wrong at the place where it fails, and what it asks.
use Rattle.std.specs.Prelude.{ℕ, List, codes}
use Rattle.twe_parser.specs.declared.fail.SRule.{SRule}
use Rattle.twe_parser.specs.declared.fail.SRule.TheVariants.{S1, S2, S3, S4, S5, S6}
use Rattle.name_check.specs.declared.rule.NRule.{NRule}
use Rattle.name_check.specs.declared.rule.NRule.TheVariants.{N1, N2, N3, N4, N5, N6, N7, N8, N9}
use Rattle.effect_check.specs.declared.rule.ERule.{ERule}
use Rattle.effect_check.specs.declared.rule.ERule.TheVariants.{E1, E2, E3, E4, E5, E6, E7, E8}
use Rattle.twe_frontend.specs.declared.refusal.RuleName.{RuleName}
use Rattle.twe_frontend.specs.declared.refusal.RuleName.TheVariants.{Text, Name, Effect}

-- what is wrong where a rule of the text fails
abbrev pub wrong_text : SRule → List ℕ
wrong_text S1 = codes "this byte may not stand in a text"
wrong_text S2 = codes "no program goes on with this"
wrong_text S3 = codes "the text ends too early"
wrong_text S4 = codes "this number is too large"
wrong_text S5 = codes "this is nested too deep, or is one operator too many"
wrong_text S6 = codes "this comment has no end"

-- what is wrong where a rule of names fails
abbrev pub wrong_name : NRule → List ℕ
wrong_name N1 = codes "this name is not known here"
wrong_name N2 = codes "this name is taken already"
wrong_name N3 = codes "this is of another kind or type than is needed here"
wrong_name N4 = codes "this has more or fewer arguments than there are parameters"
wrong_name N5 = codes "this body can end without a return"
wrong_name N6 = codes "this can not be assigned"
wrong_name N7 = codes "this is more than the limit allows"
wrong_name N8 = codes "there is no main"
wrong_name N9 = codes "this is a second * in one path"

-- what is wrong where a rule on effects fails
abbrev pub wrong_effect : ERule → List ℕ
wrong_effect E1 = codes "this task does not have the effect of this here"
wrong_effect E2 = codes "this call needs an effect that the task does not have here"
wrong_effect E3 = codes "this spawn needs an effect that the task does not have here"
wrong_effect E4 = codes "on some way to this join no task is out"
wrong_effect E5 = codes "on some way to this spawn its task is out already"
wrong_effect E6 = codes "a deterministic task must not do this"
wrong_effect E7 = codes "a deterministic task spawns one that is not deterministic"
wrong_effect E8 = codes "this method does not have the effect of this"

-- what is wrong where a rule fails
abbrev pub wrong : RuleName → List ℕ
wrong (Text rule) = wrong_text rule
wrong (Name rule) = wrong_name rule
wrong (Effect rule) = wrong_effect rule

-- what a rule of the text asks
abbrev pub asked_text : SRule → List ℕ
asked_text S1 = codes "a text has tabs, line ends and the printing characters of ASCII, in its comments too"
asked_text S2 = codes "some program begins with all that stands before this: the mistake is here or before it"
asked_text S3 = codes "up to its end it is the beginning of a program: a bracket, a statement or a declaration is open"
asked_text S4 = codes "a number is at most 2147483647, or 2147483648 directly after a minus sign of its own"
asked_text S5 = codes "at most 200 brackets are open at once, and a statement has at most 200 operators"
asked_text S6 = codes "a comment that begins with /* goes on up to a */, and none follows"

-- what a rule of names asks
abbrev pub asked_name : NRule → List ℕ
asked_name N1 = codes "it is declared nowhere, or only later or in another block; an index in an effect is a parameter"
asked_name N2 = codes "a name stands for one thing: the program declares it once, and no local or parameter hides it"
asked_name N3 = codes "kinds are region, cell, array, method, task, local, future; types are int, boolean, or no value"
asked_name N4 = codes "a call, a spawn and an executeLater give one argument to each parameter of what they name"
asked_name N5 = codes "a method or a task that returns an int ends with a return on each of its ways"
asked_name N6 = codes "a parameter and a final local keep the value that they begin with"
asked_name N7 = codes "limits: 65536 cells, 131072 nodes; 32 elements of a path, 8 effects, 4 parameters"
asked_name N8 = codes "a program has a task that is declared as task void main(), without parameters"
asked_name N9 = codes "a path has at most one *, which stands for any elements"

-- what a rule on effects asks
abbrev pub asked_effect : ERule → List ℕ
asked_effect E1 = codes "a task touches what its effects declare, apart from what a spawned task has until it is joined"
asked_effect E2 = codes "a task has the effects of what it calls, apart from what a spawned task has until it is joined"
asked_effect E3 = codes "a spawned task takes its effects from its maker, who has them back when it joins the task"
asked_effect E4 = codes "on each way to a join its task was spawned, and was not joined since then"
asked_effect E5 = codes "on each way from a spawn to itself, as around a loop, its task is joined"
asked_effect E6 = codes "it makes tasks by spawn and waits by join: the order of executeLater and getValue is open"
asked_effect E7 = codes "each task that a deterministic task spawns is declared deterministic too"
asked_effect E8 = codes "a method touches what its own effects declare, in the methods that it calls too"

-- what a rule asks
abbrev pub asked : RuleName → List ℕ
asked (Text rule) = asked_text rule
asked (Name rule) = asked_name rule
asked (Effect rule) = asked_effect rule
