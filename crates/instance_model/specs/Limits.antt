-- The sizes up to which this program works.
use Rattle.instance_model.specs.declared.limits.Limits.{Limits}

-- the limits that the program is shipped with: counts of things, and lengths of files in bytes
abbrev pub standard_limits : Limits
standard_limits =
    record {
      periods = 512;
      resources = 32;
      interventions = 1024;
      scenarios = 1024;
      seasons = 64;
      exclusions = 65_536;
      risk_cells = 100_000_000;
      workload_entries = 32_000_000;
      instance_bytes = 2_147_483_647;
      plan_bytes = 16_777_216;
      certificate_bytes = 268_435_456;
      script_bytes = 536_870_912;
    }
