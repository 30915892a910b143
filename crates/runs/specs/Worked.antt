-- Worked cases: small runs whose answers were written down by hand from the rules, in one table.
--
-- Case         how many words and trays there are, the laying, the calls; what they must say, and the counter afterwards
-- Payloads are numbers here; 7, 8 and 9 mean nothing.
use Rattle.std.specs.Prelude.{◌≡◌, ℕ, ◌^◌, List, [], ◌∷◌, ◌++◌, map, replicate, slice_index}
use Rattle.line.specs.Answers.{Told, told}
use Rattle.line.specs.Calls.{lays}
use Rattle.line.specs.Crew.{never_laid}
use Rattle.runs.specs.declared.calls.CrewCall.TheVariants.{GrantLane, BeginCollect, GrantCollector, Settle}
use Rattle.runs.specs.declared.calls.Laying.{Laying}
use Rattle.runs.specs.declared.calls.OpenCall.{OpenCall}
use Rattle.runs.specs.declared.calls.OpenCall.TheVariants.{BeginPost, Any}
use Rattle.runs.specs.Runs.{Said, began_collect, began_post, granted_collector, granted_lane, open_run, settled}

pub record Case : Type 0 where
  pub words : ℕ
  pub trays : ℕ
  pub laying : Laying
  pub calls : List (OpenCall ℕ)
  pub laid : Told
  pub says : List Said
  pub counter : ℕ

abbrev pub lines : ℕ → ℕ → ℕ → Laying
lines n k start = record { lanes = n; cells = k; start = start }

-- a post that is granted to its end, and one that gets some grants
abbrev pub grant : ℕ → ℕ → List (OpenCall ℕ)
grant lane times = Any (GrantLane lane times) ∷ []

abbrev pub post : ℕ → ℕ → List (OpenCall ℕ)
post lane x = BeginPost lane x ∷ grant lane 13

abbrev pub collect : ℕ → List (OpenCall ℕ)
collect times = Any BeginCollect ∷ Any (GrantCollector times) ∷ []

abbrev pub go_on : List (OpenCall ℕ)
go_on = Any (GrantCollector 13) ∷ []

abbrev pub settle : List (OpenCall ℕ)
settle = Any Settle ∷ []

abbrev pub done : Told
done = told 0 []

-- what a post and a collect say that run to their end
abbrev pub post_says : ℕ → ℕ → List ℕ → List Said
post_says lane number values = began_post done ∷ granted_lane lane (told number values) ∷ []

abbrev pub collect_says : List ℕ → List Said
collect_says values = began_collect done ∷ granted_collector (told 0 values) ∷ []

-- a line of two lanes with two cells each, over just enough memory
abbrev pub pair : ℕ → List (OpenCall ℕ) → List Said → ℕ → Case
pair start calls says counter = record { words = 11; trays = 7; laying = lines 2 2 start; calls = calls; laid = done; says = says; counter = counter }

-- a line of one lane with three cells
abbrev pub single : List (OpenCall ℕ) → List Said → ℕ → Case
single calls says counter = record { words = 7; trays = 5; laying = lines 1 3 0; calls = calls; laid = done; says = says; counter = counter }

-- a laying alone, for two lanes
abbrev pub layings : ℕ → ℕ → ℕ → ℕ → Case
layings words trays k number = record { words = words; trays = trays; laying = lines 2 k 0; calls = []; laid = told number []; says = []; counter = 0 }

abbrev pub cases : List Case
cases =
    -- a post alone: stamp 0, 9 grants
    pair 0 (post 0 7) (post_says 0 0 (0 ∷ 9 ∷ [])) 1
    -- a second one finds the lane full after 1 grant, and takes no stamp
    ∷ pair 0 (post 0 7 ++ post 0 8) (post_says 0 0 (0 ∷ 9 ∷ []) ++ post_says 0 8 (1 ∷ [])) 1
    -- a collect has loaded slot 0 when lane 0 posts and then lane 1: it delivers lane 0, with 8 grants
    ∷ pair 0 (collect 1 ++ (post 0 7 ++ (post 1 8 ++ go_on)))
    (collect_says [] ++ (post_says 0 0 (0 ∷ 9 ∷ []) ++ (post_says 1 0 (1 ∷ 9 ∷ []) ++ granted_collector (told 0 (0 ∷ 0 ∷ 8 ∷ [])) ∷ []))) 2
    -- a collect has loaded slot 0 when lane 0 posts: it ends empty, with 2 grants
    ∷ pair 0 (collect 1 ++ (post 0 7 ++ go_on)) (collect_says [] ++ (post_says 0 0 (0 ∷ 9 ∷ []) ++ granted_collector (told 0 (2 ∷ [])) ∷ [])) 1
    -- no stamp is left: the post ends after 2 grants
    ∷ pair (2 ^ 62) (post 0 7) (post_says 0 9 (2 ∷ [])) (2 ^ 62)
    -- a post runs whole between the collector's look and its swap: the collect needs its second try
    ∷ single (post 0 7 ++ (collect 4 ++ (post 0 8 ++ go_on)))
    (post_says 0 0 (0 ∷ 9 ∷ []) ++ (collect_says [] ++ (post_says 0 0 (1 ∷ 9 ∷ []) ++ granted_collector (told 0 (0 ∷ 0 ∷ 11 ∷ [])) ∷ []))) 2
    -- two collects run whole during a post: its grant 13 ends it as posted
    ∷ single (post 0 7 ++ (BeginPost 0 8 ∷ grant 0 6 ++ (collect 13 ++ (settle ++ (grant 0 6 ++ (collect 13 ++ grant 0 1))))))
    (post_says 0 0 (0 ∷ 9 ∷ [])
    ++ (post_says 0 0 [] ++ (collect_says (0 ∷ 0 ∷ 7 ∷ []) ++ (settled (told 0 (0 ∷ 0 ∷ 7 ∷ [])) ∷ granted_lane 0 done ∷ collect_says (0 ∷ 1 ∷ 6 ∷ []) ++ granted_lane 0 (told 0 (1 ∷ 13 ∷ [])) ∷ [])))) 2
    -- layings: accepted over 11 words and 7 trays; refused over fewer; refused with 1 or 65 cells
    ∷ layings 11 7 2 0
    ∷ layings 10 7 2 3
    ∷ layings 11 6 2 3
    ∷ layings 200 200 1 1
    ∷ layings 200 200 65 1
    ∷ []

-- what a case comes to by the definitions, and what it must come to
abbrev pub comes_to : Case → Told × List Said × ℕ
comes_to x =
    let o = lays (replicate x.words 0) (replicate {A = ℕ} x.trays 0) never_laid x.laying.lanes x.laying.cells x.laying.start in
    let r = open_run o x.calls in
    (o.answer, r.answers, slice_index r.words 0)

abbrev pub must_come_to : Case → Told × List Said × ℕ
must_come_to x = (x.laid, x.says, x.counter)

abbrev pub WorkedCasesComeOut : Type 0
WorkedCasesComeOut = map comes_to cases ≡ map must_come_to cases
