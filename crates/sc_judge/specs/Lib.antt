pub mod ViewSight
