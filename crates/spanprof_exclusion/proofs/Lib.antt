mod FaultReports
