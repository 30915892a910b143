-- A whole crew as plain numbers, and back.
--
-- core_of      what the crew keeps that the numbers mean
-- plain_crew   the numbers of what a crew keeps
use Rattle.std.specs.Prelude.{◌≡◌, cond, not, map, ◌==◌}
use Rattle.line.specs.Crew.{shape}
use Rattle.line.specs.declared.crew.Core.{Core}
use Rattle.plain_crew.specs.Collectors.{collector_of, plain_collector}
use Rattle.plain_crew.specs.Lanes.{lane_of, plain_lane}
use Rattle.plain_crew.specs.declared.crew.PlainCrew.{PlainCrew}

abbrev pub core_of : PlainCrew → Core
core_of p =
    record {
      shape = shape p.lanes p.cells;
      rows = map lane_of p.rows;
      heads = p.heads;
      collector = collector_of p.collector;
      posted = p.posted;
      delivered = p.delivered;
      draining = not (p.draining == 0);
    }

abbrev pub plain_crew : Core → PlainCrew
plain_crew c =
    record {
      lanes = c.shape.lanes;
      cells = c.shape.cells;
      draining = cond c.draining 1 0;
      heads = c.heads;
      rows = map plain_lane c.rows;
      collector = plain_collector c.collector;
      posted = c.posted;
      delivered = c.delivered;
    }

-- a crew that is put away as numbers and taken up again is the same
abbrev pub NumbersMeanTheirCrew : Type 0
NumbersMeanTheirCrew = (c : Core) → core_of (plain_crew c) ≡ c
